use Rattle.laws.proofs.Prelude.{◌≡◌, ◌-◌, ◌≤◌, length, drop}
use Rattle.text.specs.Utf8.{formed}
use Rattle.text.proofs.utf8.well_formed.Given as goal

abbrev pub invariant-loop-at : goal.invariant-loop-at
invariant-loop-at l = (l.at ≤ length l.s) × (formed l.encoding 0 l.s ≡ formed l.encoding 0 (drop l.at l.s))

abbrev pub decreases-loop-at : goal.decreases-loop-at
decreases-loop-at l = length l.s - l.at
