use Rattle.laws.proofs.Prelude.{◌≡◌, ◌≤◌, ◌-◌, length}
use Rattle.analysis.specs.{Row.match_at, Patterns.reference_end}
use Rattle.analysis.proofs.matcher.reference_ends.Given as goal

abbrev pub invariant-loop-at : goal.invariant-loop-at
invariant-loop-at l = (l.i ≤ length l.s) × (match_at reference_end l.s l.at ≡ match_at reference_end l.s l.i)

abbrev pub decreases-loop-at : goal.decreases-loop-at
decreases-loop-at l = length l.s - l.i
