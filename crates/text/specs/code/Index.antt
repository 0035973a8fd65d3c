-- Positions in a table, a row for each.
use Rattle.std.specs.Prelude.{List, ℕ, ◌+◌, ◌/◌, length, map}
use Prim.Native.Nat.{min}
use Rattle.text.specs.Position.{characters, Indexed}
use Rattle.text.specs.declared.position.Position.{Position}
use Rattle.text.specs.declared.position.PositionRow.{PositionRow}

-- the position in a row, and those in a table
abbrev pub position_in : PositionRow → Position
position_in row = record { line = row.line; column = row.column }

abbrev pub positions_in : List PositionRow → List Position
positions_in = map position_in

-- an index of a source: right as far as both it and the source go, it may be shorter, and what it has behind the source is not asked
abbrev pub IndexOf : List ℕ → List Position → Type 0
IndexOf s index = Indexed characters s index (min (length index) (length s / 64 + 1))
