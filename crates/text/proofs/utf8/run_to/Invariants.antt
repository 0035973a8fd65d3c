use Rattle.laws.proofs.Prelude.{◌≡◌, ◌-◌, ◌≤◌, length, drop}
use Rattle.text.specs.Utf8.{formed}
use Rattle.text.proofs.utf8.run_to.Given as goal

abbrev pub invariant-loop-i : goal.invariant-loop-i
invariant-loop-i l = (l.i ≤ length l.s) × (formed l.encoding 0 (drop l.at l.s) ≡ formed l.encoding 0 (drop l.i l.s))

abbrev pub decreases-loop-i : goal.decreases-loop-i
decreases-loop-i l = l.stop - l.i
