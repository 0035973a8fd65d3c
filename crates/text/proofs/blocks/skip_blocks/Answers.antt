use Rattle.laws.proofs.Prelude.{arith, true, ◌≡◌, get_or, length-drop}
use Rattle.laws.proofs.Onward.{on_by_block}
use Rattle.std.proofs.lemmas.List.{take_rest}
use Rattle.text.proofs.Tested.{from_place}
use Rattle.text.proofs.blocks.skip_blocks.Goals as goal

pub loop-i-preserved : goal.loop-i-preserved
loop-i-preserved g c =
    let a = c.args in
    let l = c.loop-i in
    let f = rw take_rest at c.all_in_block.ensures c.loop-i-test.true in
    record {
      from = omega arith;
      to = omega (arith, f.0, length-drop l.i a.s.now);
      each = λ p h. on_by_block (λ k. p (get_or a.s.now k 0) ≡ true) a.at l.i 32 (l.invariant.each p h) (from_place p a.s.now l.i 32 (f.1 p (λ b r m e. h b r m e)));
    }
