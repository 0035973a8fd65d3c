use Rattle.laws.proofs.Prelude.{◌≡◌, ◌+◌, ◌-◌, ◌≤◌, length, drop}
use Rattle.text.specs.{Class.run_if, code.Tests.ByTest}
use Rattle.text.proofs.class.run_end_if.Given as goal

abbrev pub invariant-loop-at : goal.invariant-loop-at
invariant-loop-at g l = record {
  onward : l.at ≤ l.i;
  inside : l.i ≤ length l.s;
  answer : ByTest (goal.F-post g l.test) (λ p. l.at + run_if p 0 (drop l.at l.s) ≡ l.i + run_if p 0 (drop l.i l.s));
}

abbrev pub decreases-loop-at : goal.decreases-loop-at
decreases-loop-at g l = length l.s - l.i
