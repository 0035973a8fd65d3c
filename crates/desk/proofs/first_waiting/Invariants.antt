use Rattle.laws.proofs.Prelude.{◌≡◌, ◌-◌}
use Rattle.desk.specs.{Desk.first_waiting, Block.desk_as}
use Rattle.desk.proofs.first_waiting.Given as goal

abbrev pub invariant-loop-passed : goal.invariant-loop-passed
invariant-loop-passed l = first_waiting (desk_as l.block) 0 16 ≡ first_waiting (desk_as l.block) l.passed (16 - l.passed)
