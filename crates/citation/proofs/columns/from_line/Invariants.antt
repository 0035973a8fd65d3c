use Rattle.laws.proofs.Prelude.{◌≡◌, ◌-◌, ◌≤◌, length}
use Rattle.citation.specs.Columns.{from_line}
use Rattle.citation.proofs.columns.from_line.Given as goal

abbrev pub invariant-loop : goal.invariant-loop
invariant-loop l = (length l.left ≤ length l.source) × (from_line l.line l.source ≡ from_line (l.line - l.counter) l.left)
