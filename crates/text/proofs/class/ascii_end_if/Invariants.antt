use Rattle.laws.proofs.Prelude.{◌≡◌, ◌+◌, ◌-◌, ◌≤◌, length, drop}
use Rattle.text.specs.{Class.run_if, code.Tests.ByTest}
use Rattle.text.proofs.class.ascii_end_if.Given as goal

abbrev pub invariant-loop-i : goal.invariant-loop-i
invariant-loop-i g l = record {
  onward : l.at ≤ l.i;
  inside : l.i ≤ length l.s;
  rest : ByTest (goal.F-post g l.test) (λ p. l.at + run_if p 0 (drop l.at l.s) ≡ l.i + run_if p 0 (drop l.i l.s));
}

abbrev pub decreases-loop-i : goal.decreases-loop-i
decreases-loop-i g l = length l.s - l.i
