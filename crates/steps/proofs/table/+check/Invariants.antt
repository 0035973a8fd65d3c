use Rattle.laws.proofs.Prelude.{◌≡◌, ◌≤◌, length}
use Rattle.steps.specs.{Table.row_in, Answers.verdict_of}
use Rattle.steps.proofs.table.+check.Given as goal

abbrev pub invariant-loop-next : goal.invariant-loop-next
invariant-loop-next l = (length l.rest ≤ length l.steps) × (verdict_of (row_in l.steps) ≡ verdict_of (row_in l.rest))

abbrev pub decreases-loop-next : goal.decreases-loop-next
decreases-loop-next l = length l.rest

-- how many numbers are left
abbrev pub decreases-check : goal.decreases-check
decreases-check l = length l.steps.now
