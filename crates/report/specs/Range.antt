-- The ranges of a source's spans.
use Rattle.std.specs.Prelude.{◌≡◌, List, ℕ, ◌≤◌, length}
use Rattle.text.specs.Position.{characters, position_of, Boundary}
use Rattle.sheet.specs.declared.fields.Span.{Span}
use Rattle.report.specs.ModuleInfo.{PositionRange}

-- the positions at a span's start and at its end
abbrev pub range_of : List ℕ → Span → PositionRange
range_of source sp = record { start = position_of characters source sp.start; end = position_of characters source sp.end }

-- the range is that of this place of the source, and of no other; a place lies between characters
pub record RangeAt (source : List ℕ) (range : PositionRange) (place : Span) : Type 0 where
  pub start : Boundary source place.start
  pub end : Boundary source place.end
  pub is : range ≡ range_of source place
  pub only : (sp : Span) → Boundary source sp.start → Boundary source sp.end → range ≡ range_of source sp → sp ≡ place

-- a span that is not past the source
pub record InSource (source : List ℕ) (sp : Span) : Type 0 where
  pub start : sp.start ≤ length source
  pub end : sp.end ≤ length source
