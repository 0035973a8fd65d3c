-- The reading of a body as a function. The grammar is what is to be believed; that the two agree is promised by the finder.
use Rattle.std.specs.Prelude.{Bool, false, cond, ◌||◌, List, ℕ, ◌+◌, eqb, length, drop, Option, Some, None}
use Rattle.laws.specs.Ascii.{ascii}
use Rattle.text.specs.Class.{length_if, run_if}
use Rattle.text.specs.Bytes.{begins}
use Rattle.analysis.specs.declared.Capture.{Capture}
use Rattle.ecma426.specs.WhiteSpace.{is_space, not_space}

-- the length of the character of the kind that the text begins with, 0 where there is none
abbrev pub one_at : (ℕ → Bool) → List ℕ → ℕ
one_at = length_if

-- how many bytes the longest row of the kind has at the front, behind `skip` bytes of a character already in it
abbrev pub row : (ℕ → Bool) → ℕ → List ℕ → ℕ
row = run_if

-- where the longest row of the kind ends that begins at a place
unfoldable pub row_end : (ℕ → Bool) → List ℕ → ℕ → ℕ
row_end kind s at = at + row kind 0 (drop at s)

-- the text begins with `#` or `@`
abbrev pub marked : List ℕ → Bool
marked s = begins (ascii "#") s || begins (ascii "@") s

abbrev pub word : List ℕ
word = ascii "sourceMappingURL="

-- the run from one place to another, if only whitespace follows it
abbrev pub run_to : List ℕ → ℕ → ℕ → Option Capture
run_to body from to = cond (eqb (row_end is_space body to) (length body)) (Some (record { quoted = false; from = from; to = to })) None

-- behind the whitespace: the word, and the run right behind it
abbrev pub from_word : List ℕ → ℕ → Option Capture
from_word body at = cond (begins word (drop at body)) (run_to body (at + length word) (row_end not_space body (at + length word))) None

unfoldable pub find_source_map : List ℕ → Option Capture
find_source_map body = cond (marked body) (from_word body (row_end is_space body 1)) None
