-- What holds of the columns that are printed: where they stand in the source, that no two places print alike, and their order.
use Rattle.std.specs.Prelude.{◌≡◌, cond, ◌↔◌, List, ℕ, eqb, length, get_or}
use Rattle.laws.specs.Codec.{All}
use Rattle.text.specs.Encode.{encode}
use Rattle.text.specs.Position.{characters, position_of, Boundary, Before, Counted, utf16}
use Rattle.sheet.specs.declared.fields.Span.{Span}
use Rattle.report.specs.ModuleInfo.{PositionRange}
use Rattle.report.specs.Range.{RangeAt}
use Rattle.citation.specs.Columns.{recounted_range}
use Rattle.citation.specs.Citation.{cite_range, Line}

-- the range of a place, in UTF-16 code units
abbrev pub utf16_range : List ℕ → Span → PositionRange
utf16_range source sp = record { start = position_of utf16 source sp.start; end = position_of utf16 source sp.end }

-- the report's range of a line is that of this place and of no other, and what is printed of it are the place's positions in UTF-16 code units
pub record CitedAt (source : List ℕ) (l : Line) (place : Span) : Type 0 where
  pub range : RangeAt source l.range place
  pub columns : recounted_range source l.range ≡ utf16_range source place

-- the lines of a citation, over a source
pub record ColumnsRight (source : List ℕ) (ls : List Line) : Type 0 where
  -- a character of four UTF-8 bytes counts two, any other one
  pub units : (c : ℕ) → utf16 (get_or (encode c) 0 0) ≡ cond (eqb (length (encode c)) 4) 2 1
  -- and a position is the one past the characters before it, each counted so
  pub counted : Counted utf16 source
  -- each line is cited at some place
  pub placed : All (λ l. (place : Span) × CitedAt source l place) ls
  -- two different places never print alike
  pub apart : (a b : Span) → Boundary source a.start → Boundary source a.end → Boundary source b.start → Boundary source b.end
      → cite_range (utf16_range source a) ≡ cite_range (utf16_range source b) → a ≡ b
  -- one position of the report comes before another just where it does as printed
  pub order : (p q : ℕ) → Boundary source p → Boundary source q
      → Before (position_of characters source p) (position_of characters source q) ↔ Before (position_of utf16 source p) (position_of utf16 source q)
