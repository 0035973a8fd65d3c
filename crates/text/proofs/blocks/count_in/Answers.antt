use Rattle.laws.proofs.Prelude.{arith, ◌∙◌, sym, ap, ◌≤◌, length, take_all}
use Rattle.std.specs.Prelude.{count_by}
use Rattle.std.proofs.lemmas.List.Sums.{count_by_more_yes, count_by_more_no}
use Rattle.text.proofs.blocks.count_in.Goals as goal
use Rattle.text.proofs.blocks.count_in.Goals.{then-test, else-test}

pub loop-b-preserved : goal.loop-b-preserved
loop-b-preserved g c =
    let s = c.args.block.now in
    let l = c.loop-b in (
      elim c.if-test.branch [ then-test w ↦ omega arith | else-test w ↦ omega arith ],
      λ p h.
          let e = h _ _ (omega arith) c.test.ensures in
          elim c.if-test.branch [
            | then-test w ↦ omega (arith, l.invariant.1 p h, count_by_more_yes p s l.b-index 0 (omega arith) (sym e ∙ w.if-test.true))
            | else-test w ↦ omega (arith, l.invariant.1 p h, count_by_more_no p s l.b-index 0 (omega arith) (sym e ∙ w.if-test.false))
          ],
    )

pub returns : goal.returns
returns g c = λ p h.
    let s = c.args.block.now in
    let e : length s ≤ c.loop-b.b-index = omega arith in
    c.loop-b.invariant.1 p h ∙ ap (count_by p) (take_all _ s e)
