-- A text in WTF-8 with U+FFFD for each surrogate, and how many there are.
-- A byte 0xED never goes on with a character, so the bytes that the surrogates' row admits are a character of their own.
use Rattle.std.specs.Prelude.{◌≡◌, Bool, true, false, cond, List, [], ◌∷◌, map, ◌↔◌, ℕ, zero, suc, ◌+◌, eqb}
use Rattle.laws.specs.Codec.{All}
use Rattle.text.specs.declared.utf8.Encoding.TheVariants.{Utf8}
use Rattle.text.specs.Ranges.{◌to◌, within}
use Rattle.text.specs.Utf8.{admits, surrogate}
use Rattle.text.specs.WellFormed.{TextOf}

-- where a surrogate begins: the bytes of U+FFFD, and past two bytes more; else the byte itself
abbrev pub marking : Bool → ℕ → (ℕ → List ℕ) → List ℕ
marking true x rest = 0xEF ∷ 0xBF ∷ 0xBD ∷ rest 2
marking false x rest = x ∷ rest 0

-- the text behind `skip` bytes, which belong to a surrogate already replaced
unfoldable pub replacing : ℕ → List ℕ → List ℕ
replacing skip [] = []
replacing (suc skip) (x ∷ s) = replacing skip s
replacing zero (x ∷ s) = marking (admits surrogate (x ∷ s)) x (λ skip. replacing skip s)

abbrev pub counting : Bool → (ℕ → ℕ) → ℕ
counting true rest = suc (rest 2)
counting false rest = rest 0

-- how many surrogates stand behind `skip` bytes, which belong to one already counted
unfoldable pub surrogates : ℕ → List ℕ → ℕ
surrogates skip [] = 0
surrogates (suc skip) (x ∷ s) = surrogates skip s
surrogates zero (x ∷ s) = counting (admits surrogate (x ∷ s)) (λ skip. surrogates skip s)

abbrev pub lossy : List ℕ → List ℕ
lossy s = replacing 0 s

-- the number of surrogates that the lossy text replaces
abbrev pub replaced : List ℕ → ℕ
replaced s = surrogates 0 s

-- a text with no surrogate, so that the lossy text is the text itself (law `exact_lossy`)
abbrev pub exact : List ℕ → Bool
exact s = eqb (replaced s) 0

-- ---- over code points

-- a code point as it is reported: U+FFFD for a surrogate
abbrev pub reported : ℕ → ℕ
reported p = cond (within (0xD800 to 0xDFFF) p) 0xFFFD p

-- the number of surrogates among code points
unfoldable pub surrogates_among : List ℕ → ℕ
surrogates_among [] = 0
surrogates_among (p ∷ ps) = cond (within (0xD800 to 0xDFFF) p) 1 0 + surrogates_among ps

-- the lossy text of a text of WTF-8, by its code points: well-formed UTF-8 with U+FFFD for each surrogate; exact is a text without one
pub record LossyOf (points x : List ℕ) : Type 0 where
  pub text : TextOf Utf8 (map reported points) (lossy x)
  pub count : replaced x ≡ surrogates_among points
  pub exactly : (exact x ≡ true) ↔ All (λ p. within (0xD800 to 0xDFFF) p ≡ false) points
