-- A position whose line and column, counted from 1, are numbers of the machine: that of a report, recounted or not.
use Rattle.std.specs.Prelude.{◌*◌, ◌≤◌}
use Rattle.text.specs.declared.position.Position.{Position}
use Rattle.wire.specs.Number.{largest}

pub record Printable (p : Position) : Type 0 where
  pub line : p.line ≤ largest
  pub column : p.column ≤ 2 * largest
