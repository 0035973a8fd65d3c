-- What is printed of the bytes s of a report, if those of a valid value stand at their front: its lines; and the bytes behind it are found.
use Rattle.std.specs.Prelude.{◌≡◌, ℕ, length}
use mathlib.Core.List.{List, ◌++◌, flat_map}
use Rattle.std.specs.Borrow.{Bor}
use Rattle.report.specs.declared.writer.Writer.{Writer}
use Rattle.report.specs.Buffer.{Wrote}
use Rattle.citation.specs.Citation.{Line, printed}

-- lines over a source, and so many, are written behind what stood in the buffer
pub record Printed (source : List ℕ) (before : Writer) (lines : List Line) (after : Writer) (count : ℕ) : Type 0 where
  pub written : Wrote before after (flat_map (printed source) lines)
  pub counted : count ≡ length lines

-- the lines of the value whose bytes stand there are written, over a source
abbrev pub Cites : {A : Type 0} → (A → List ℕ) → (A → Type 0) → List ℕ → List ℕ → (A → List Line) → Writer → Writer → ℕ × Bor (List ℕ) → Type 0
Cites {A} encode Valid s source lines before after r =
    (a : A) → Valid a → (t : List ℕ) → s ≡ encode a ++ t → Printed source before (lines a) after r.0 × (r.1.now ≡ t)
