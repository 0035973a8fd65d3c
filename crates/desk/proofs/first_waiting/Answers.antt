use Rattle.laws.proofs.Prelude.{rules, ◌≡◌, sym, ◌∙◌, ap, ◌-◌, arith}
use Rattle.desk.specs.{Desk.first_waiting}
use Rattle.desk.proofs.{Search.found_here, Search.found_on}
use Rattle.desk.proofs.first_waiting.Goals as goal

pub returns-then-waiting-gt0 : goal.returns-then-waiting-gt0
returns-then-waiting-gt0 c = sym (c.loop-passed.invariant ∙ found_here _ _ _ (search rules) c.waiting.ensures c.if-waiting-gt0.true)

pub loop-passed-preserved : goal.loop-passed-preserved
loop-passed-preserved c = c.loop-passed.invariant ∙ found_on _ _ _ (search rules) c.waiting.ensures c.if-waiting-gt0.false

pub returns : goal.returns
unfolding first_waiting
returns c = let e : 16 - c.loop-passed.passed ≡ 0 = omega arith in sym (c.loop-passed.invariant ∙ ap (first_waiting _ _) e)
