use Rattle.laws.proofs.Prelude.{arith, drop, drop-drop, known}
use Rattle.std.proofs.lemmas.List.{take_rest}
use Rattle.text.proofs.{Runs.if_stops, Runs.if_goes_on}
use Rattle.text.proofs.class.run_end_if.Goals as goal

pub returns-then-n-eq0 : goal.returns-then-n-eq0
returns-then-n-eq0 g c =
    let i = c.ascii_end_if-i.result in
    record {
      answer = λ p says.
          let stops = if_stops p (drop i c.args.s.now) (rw take_rest at (known (c.length_if-n.ensures.answer p says) c.if-n-eq0.true)) in
          omega (arith, c.loop-at.invariant.answer p says, stops);
      bounds = (omega arith, omega arith);
    }

pub loop-at-preserved : goal.loop-at-preserved
loop-at-preserved g c =
    let i = c.ascii_end_if-i.result in
    record {
      onward = omega arith;
      inside = omega arith;
      answer = λ p says.
          let e = rw drop-drop at (if_goes_on p (drop i c.args.s.now) (rw take_rest at (c.length_if-n.ensures.answer p says)) c.if-n-eq0.false) in
          omega (arith, c.loop-at.invariant.answer p says, e);
    }
