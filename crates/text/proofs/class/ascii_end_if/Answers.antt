use Rattle.laws.proofs.Prelude.{refl, arith, sym, ◌∙◌}
use Rattle.text.proofs.Runs.{ascii_goes_on}
use Rattle.text.proofs.class.ascii_end_if.Goals as goal

pub loop-i-init : goal.loop-i-init
loop-i-init g c = record { onward = omega arith; inside = c.requires.place; rest = λ p says. refl }

pub loop-i-preserved : goal.loop-i-preserved
loop-i-preserved g c =
    let i = c.loop-i.i in
    let l = c.loop-i.invariant in
    record {
      onward = omega (arith, l.onward);
      inside = omega (arith, c.loop-i-test.true);
      rest = λ p says.
          let passes = sym c.if-test.true ∙ (rw c.from.ensures at (says _ _ c.test.ensures)) in
          omega (arith, l.rest p says, ascii_goes_on p c.args.s.now i c.loop-i-test.true c.if-s-i-lt128.true passes);
    }
