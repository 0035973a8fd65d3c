-- Columns as editors count them, in UTF-16 code units. A report counts characters; here its positions are recounted from the source.
use Rattle.std.specs.Prelude.{Bool, cond, List, [], ◌∷◌, ℕ, zero, suc, ◌+◌, eqb, leb}
use Rattle.text.specs.declared.position.Position.{Position}
use Rattle.text.specs.Ranges.{within}
use Rattle.text.specs.Utf8.{continuation}
use Rattle.report.specs.ModuleInfo.{PositionRange}

-- does the byte begin a character of four UTF-8 bytes?
abbrev pub begins_four : ℕ → Bool
begins_four b = leb 0xF0 b

-- a text from its nth line on
unfoldable pub from_line : ℕ → List ℕ → List ℕ
from_line n [] = []
from_line zero (b ∷ s) = b ∷ s
from_line (suc n) (b ∷ s) = from_line (cond (eqb b 0x0A) n (suc n)) s

-- how many of the first n characters of a text have four bytes
unfoldable pub fours_in : ℕ → List ℕ → ℕ
fours_in n [] = 0
fours_in zero (b ∷ s) = 0
fours_in (suc n) (b ∷ s) = cond (within continuation b) (fours_in (suc n) s) (cond (begins_four b) 1 0 + fours_in n s)

-- a position in characters, recounted: each character of four bytes before it on its line counts one more
unfoldable pub recounted : List ℕ → Position → Position
recounted source p = record { line = p.line; column = p.column + fours_in p.column (from_line p.line source) }

-- so are both positions of a range
abbrev pub recounted_range : List ℕ → PositionRange → PositionRange
recounted_range source r = record { start = recounted source r.start; end = recounted source r.end }
