use Rattle.laws.proofs.Prelude.{arith, sym, ◌∙◌, drop, length-drop}
use Rattle.std.proofs.lemmas.List.{take_rest}
use Rattle.text.proofs.Formed.{stuck, passed, fits}
use Rattle.text.proofs.{Ascii.ascii_one}
use Rattle.text.proofs.utf8.run_to.Goals as goal

pub loop-i-preserved-then-s-i-lt128 : goal.loop-i-preserved-then-s-i-lt128
loop-i-preserved-then-s-i-lt128 c =
    let a = c.args in
    let l = c.loop-i in
    let one = ascii_one a.encoding a.s.now l.i (omega arith) (omega arith) in
    (omega arith, l.invariant.1 ∙ passed a.encoding a.s.now l.i (omega arith) 1 (sym one) (λ z. omega arith))

pub returns-then-n-eq0 : goal.returns-then-n-eq0
returns-then-n-eq0 c =
    let a = c.args in
    let l = c.loop-i in
    (l.invariant.1, omega arith, λ h. stuck a.encoding a.s.now l.i (omega arith) (rw take_rest at c.char_length-n.ensures.answer) c.if-n-eq0.true)

pub loop-i-preserved : goal.loop-i-preserved
loop-i-preserved c =
    let a = c.args in
    let l = c.loop-i in (
      omega (arith, fits a.encoding (drop l.i a.s.now), length-drop l.i a.s.now, rw take_rest at c.char_length-n.ensures.answer),
      l.invariant.1 ∙ passed a.encoding a.s.now l.i (omega arith) _ (rw take_rest at c.char_length-n.ensures.answer) c.if-n-eq0.false,
    )
