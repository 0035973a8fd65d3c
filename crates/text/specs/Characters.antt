-- A character of a text by its code point, with no reader. A piece P is a relation: `P s t` says that the text s is the piece, followed by the text t.
use Rattle.std.specs.Prelude.{◌≡◌, true, List, ◌++◌, ℕ, ◌≤◌, length, drop}
use Rattle.text.specs.declared.class.Class.{Class}
use Rattle.text.specs.declared.utf8.Encoding.TheVariants.{Utf8}
use Rattle.text.specs.Ranges.{in_ranges}
use Rattle.text.specs.Encode.{encode, code_points}
use Rattle.text.specs.Class.{member}

-- a character whose code point meets P: a code point of UTF-8, and its encoding
pub record OneWith (P : ℕ → Type 0) (s t : List ℕ) : Type 0 where
  pub point : ℕ
  pub among : in_ranges (code_points Utf8) point ≡ true
  pub meets : P point
  pub all : s ≡ encode point ++ t

-- a character of the class
abbrev pub OneOf : Class → List ℕ → List ℕ → Type 0
OneOf c = OneWith (λ p. member c p ≡ true)

-- the piece stands in the text from one place to the other
pub record Stands (P : List ℕ → List ℕ → Type 0) (s : List ℕ) (from to : ℕ) : Type 0 where
  pub inside : to ≤ length s
  pub piece : P (drop from s) (drop to s)
