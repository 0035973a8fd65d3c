use Rattle.laws.proofs.Prelude.{take, ◌≤◌}
use Rattle.text.specs.code.Places.{Counts}
use Rattle.text.proofs.blocks.count_in.Given as goal

abbrev pub invariant-loop-b : goal.invariant-loop-b
invariant-loop-b g l = (l.n ≤ l.b-index) × Counts (goal.F-post g l.test) (take l.b-index l.block) l.n
