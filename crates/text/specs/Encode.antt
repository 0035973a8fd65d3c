-- The bytes of a code point, and what it is for a row to admit those of a range of code points and nothing else.
use Rattle.std.specs.Prelude.{◌≡◌, cond, true, List, [], ◌∷◌, ◌++◌, ℕ, ◌+◌, ◌/◌, ◌%◌, ◌≤◌, ltb, length}
use Rattle.text.specs.declared.utf8.Encoding.{Encoding}
use Rattle.text.specs.declared.utf8.Encoding.TheVariants.{Utf8, Wtf8}
use Rattle.text.specs.Ranges.{Range, ◌to◌}
use Rattle.text.specs.Utf8.{admits, Row, char, never}

abbrev pub encode1 : ℕ → List ℕ
encode1 p = p ∷ []

abbrev pub encode2 : ℕ → List ℕ
encode2 p = (0xC0 + p / 64) ∷ (0x80 + p % 64) ∷ []

abbrev pub encode3 : ℕ → List ℕ
encode3 p = (0xE0 + p / 4096) ∷ (0x80 + p / 64 % 64) ∷ (0x80 + p % 64) ∷ []

abbrev pub encode4 : ℕ → List ℕ
encode4 p = (0xF0 + p / 262144) ∷ (0x80 + p / 4096 % 64) ∷ (0x80 + p / 64 % 64) ∷ (0x80 + p % 64) ∷ []

-- the bytes of a code point
unfoldable pub encode : ℕ → List ℕ
encode p = cond (ltb p 0x80) (encode1 p) (cond (ltb p 0x800) (encode2 p) (cond (ltb p 0x10000) (encode3 p) (encode4 p)))

-- the code points that an encoding has: UTF-8 all but the surrogates
abbrev pub code_points : Encoding → List Range
code_points Utf8 = (0x0000 to 0xD7FF) ∷ (0xE000 to 0x10FFFF) ∷ []
code_points Wtf8 = (0x0000 to 0x10FFFF) ∷ []

-- a lead surrogate, and a trail one
abbrev pub Lead : ℕ → Type 0
Lead p = (0xD800 ≤ p) × (p ≤ 0xDBFF)

abbrev pub Trail : ℕ → Type 0
Trail p = (0xDC00 ≤ p) × (p ≤ 0xDFFF)

-- p is a lead surrogate, and t begins with a trail one
abbrev pub Paired : ℕ → List ℕ → Type 0
Paired p t = Lead p × (q : ℕ) × Trail q × (u : List ℕ) × (t ≡ encode q ++ u)

-- the bytes that a row admits are the encodings of the code points from the first to the last, and no others
pub record Exact (first last : ℕ) (rs : List Range) : Type 0 where
  pub only : (bs : List ℕ) → length bs ≡ length rs → admits rs bs ≡ true → (p : ℕ) × (first ≤ p) × (p ≤ last) × (bs ≡ encode p)
  pub all : (p : ℕ) → first ≤ p → p ≤ last → (admits rs (encode p) ≡ true) × (length (encode p) ≡ length rs)

-- so it is for a row of the table; sequences that no text has are of no code point
abbrev pub RowExact : Row → Type 0
RowExact (char first last rs) = Exact first last rs
RowExact (never rs) = Unit {0}
