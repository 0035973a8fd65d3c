-- A pattern as a row of steps. What a row matches, and which match is preferred, is said in Matches and Prefers: those are the files to be believed.
-- The functions here give the value that the report computes, and the law `finds` ties them to it, for every row: all matches from a place, in order of
-- preference; the first of them, from the leftmost place that has one.
use Rattle.std.specs.Prelude.{Bool, false, cond, ℕ, zero, suc, eqb, drop, Option, Some, None, is_some}
use mathlib.Core.List.{List, [], ◌∷◌, ◌++◌, reverse, flat_map}
use Rattle.text.specs.declared.class.Class.{Class}
use Rattle.text.specs.Utf8.{past}
use Rattle.text.specs.Class.{class_at}
use Rattle.analysis.specs.declared.Capture.{Capture}
use Rattle.analysis.specs.Letters.{behind, on_match, word_at}

-- each step holds the rest of its row
pub data Row : Type 0 where
  done : Row
  start : Row → Row  -- ^
  word : List ℕ → Row → Row  -- its letters, whatever their case
  one : Class → Row → Row  -- a character of the class
  longest : Class → Row → Row  -- characters of the class, the longer runs preferred: *
  shortest : Class → Row → Row  -- the shorter runs preferred: *?
  from : Bool → Row → Row  -- the captured text begins, and whether marks stand around it: (
  to : Row → Row  -- it ends: )
  either : Row → Row → Row  -- the first row preferred: |

infixr 30 ◌▸◌
-- a step before the rest of its row
abbrev pub ◌▸◌ : (Row → Row) → Row → Row
step ▸ r = step r

-- before anything is captured
abbrev pub no_capture : Capture
no_capture = record { quoted = false; from = 0; to = 0 }

-- where a character of the class ends that begins at a place
abbrev pub one_at : Class → List ℕ → ℕ → Option ℕ
one_at c s at = behind at (class_at c (drop at s))

-- the places where a run of the class can end, the shortest first: in the text from `at` on, behind `skip` bytes of a character already in it
unfoldable pub ends : Class → ℕ → List ℕ → ℕ → List ℕ
ends c skip [] at = at ∷ []
ends c (suc skip) (x ∷ s) at = ends c skip s (suc at)
ends c zero (x ∷ s) at = at ∷ past (class_at c (x ∷ s)) [] (λ n. ends c n s (suc at))

abbrev pub run_ends : Class → List ℕ → ℕ → List ℕ
run_ends c s at = ends c 0 (drop at s) at

-- all matches from a place of the body on, in order of preference: what each has captured, k being captured before
unfoldable pub all : Row → List ℕ → ℕ → Capture → List Capture
all done s at k = k ∷ []
all (start r) s at k = cond (eqb at 0) (all r s at k) []
all (word w r) s at k = on_match (word_at w s at) [] (λ e. all r s e k)
all (one c r) s at k = on_match (one_at c s at) [] (λ e. all r s e k)
all (longest c r) s at k = flat_map (λ e. all r s e k) (reverse (run_ends c s at))
all (shortest c r) s at k = flat_map (λ e. all r s e k) (run_ends c s at)
all (from quoted r) s at k = all r s at (record { quoted = quoted; from = at; to = k.to })
all (to r) s at k = all r s at (record { quoted = k.quoted; from = k.from; to = at })
all (either a b) s at k = all a s at k ++ all b s at k

unfoldable pub first : List Capture → Option Capture
first [] = None
first (k ∷ ks) = Some k

-- the preferred match from a place on
unfoldable pub match_at : Row → List ℕ → ℕ → Option Capture
match_at r s at = first (all r s at no_capture)

-- every place of a text, its end too, the first being `at`
unfoldable pub places : List ℕ → ℕ → List ℕ
places [] at = at ∷ []
places (x ∷ s) at = at ∷ places s (suc at)

-- the preferred match in a body: the leftmost first
unfoldable pub find : Row → List ℕ → Option Capture
find r s = first (flat_map (λ at. all r s at no_capture) (places s 0))

abbrev pub is_found : Option Capture → Bool
is_found = is_some
