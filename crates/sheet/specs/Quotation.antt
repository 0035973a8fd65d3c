-- What the source must have at a String's span.
use Rattle.std.specs.Prelude.{◌≡◌, Bool, ◌||◌, List, [], ◌∷◌, ◌++◌, ℕ}
use Rattle.laws.specs.Ascii.{ascii}
use Rattle.text.specs.Bytes.{Mark}
use Rattle.sheet.specs.Comments.{enclosed}

-- at least two bytes, which begin and end with the same mark, `"` or `'`
pub record Quotation (bytes : List ℕ) : Type 0 where
  pub mark : ℕ
  pub inside : List ℕ
  pub of_mark : Mark mark
  pub all : bytes ≡ mark ∷ (inside ++ mark ∷ [])

-- the test for it: true just where it is one (proofs/Quotations, law `looks_quoted_iff`)
unfoldable pub looks_quoted : List ℕ → Bool
looks_quoted bytes = enclosed (ascii "\"") (ascii "\"") bytes || enclosed (ascii "'") (ascii "'") bytes
