use Rattle.laws.proofs.Prelude.{◌≡◌, ◌+◌, ◌≤◌, take}
use Rattle.text.specs.Position.{characters, walk}
use Rattle.text.proofs.position.scan.Given as goal

abbrev pub invariant-loop-b : goal.invariant-loop-b
invariant-loop-b l =
    (l.p.line ≤ l.fn.start.line + l.b-index) × (l.p.column ≤ l.fn.start.column + l.b-index)
    × (l.p ≡ walk characters l.fn.start (take l.b-index l.text))
