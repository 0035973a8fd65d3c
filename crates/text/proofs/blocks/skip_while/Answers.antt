use Rattle.laws.proofs.Prelude.{arith, true, ◌≡◌, get_or, length, sym, ◌∙◌}
use Rattle.laws.proofs.Onward.{on_by_one}
use Rattle.text.proofs.blocks.skip_while.Goals as goal

pub loop-i-preserved : goal.loop-i-preserved
loop-i-preserved g c =
    let a = c.args in
    let l = c.loop-i in
    record {
      from = omega arith;
      to = omega arith;
      each = λ p h.
          on_by_one (λ k. p (get_or a.s.now k 0) ≡ true) a.at l.i (l.invariant.each p h)
          (sym (h _ _ (omega arith) c.test.ensures) ∙ c.if-not-test.false);
    }

pub returns : goal.returns
returns g c =
    let e : c.loop-i.i ≡ length c.args.s.now = omega arith in
    record { passed = rw e at c.loop-i.invariant; there = λ p h l. absurd (omega arith) }
