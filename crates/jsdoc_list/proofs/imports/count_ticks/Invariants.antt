use Rattle.laws.proofs.Prelude.{◌≡◌, ◌+◌, ◌-◌, ◌≤◌, length, drop}
use Rattle.jsdoc_list.specs.Imports.{count_of}
use Rattle.jsdoc_list.proofs.imports.count_ticks.Given as goal

abbrev pub invariant-loop-q : goal.invariant-loop-q
invariant-loop-q l = (l.count ≤ l.q) × (l.q ≤ length l.ticks) × (l.count + count_of (drop l.q l.ticks) ≡ count_of l.ticks)

abbrev pub decreases-loop-q : goal.decreases-loop-q
decreases-loop-q l = length l.ticks - l.q
