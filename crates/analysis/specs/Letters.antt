-- Letters whatever their case, and a word at a place of a body, letter by letter: `word_at` answers where the letters that `Spelled` (Matches) asks for end.
use Rattle.std.specs.Prelude.{cond, List, [], ◌∷◌, ℕ, ◌+◌, eqb, drop, Option, Some, None}
use Rattle.text.specs.Ranges.{◌to◌, within}
use Rattle.text.specs.Utf8.{char_at}
use Rattle.text.specs.declared.utf8.Encoding.TheVariants.{Utf8}

-- a code point without its case, as far as it meets an ASCII letter: U+017F is an s, U+212A a k
unfoldable pub fold_case : ℕ → ℕ
fold_case p = cond (within (0x41 to 0x5A) p) (p + 0x20) (cond (eqb p 0x17F) 0x73 (cond (eqb p 0x212A) 0x6B p))

-- the length of the letter w, whatever its case, that the text begins with, 0 where there is none
unfoldable pub letter_at : ℕ → List ℕ → ℕ
letter_at w s = cond (eqb (fold_case (char_at Utf8 s).code) (fold_case w)) (char_at Utf8 s).len 0

-- the place behind a character of n bytes; a length of 0 is that of none
abbrev pub behind : ℕ → ℕ → Option ℕ
behind at n = cond (eqb n 0) None (Some (at + n))

-- what is found from the place that was reached on, or `none` where none was
abbrev pub on_match : {A : Type 0} → Option ℕ → A → (ℕ → A) → A
on_match (Some e) none f = f e
on_match None none f = none

-- where the word ends that begins at a place
unfoldable pub word_at : List ℕ → List ℕ → ℕ → Option ℕ
word_at [] s at = Some at
word_at (w ∷ ws) s at = on_match (behind at (letter_at w (drop at s))) None (λ e. word_at ws s e)
