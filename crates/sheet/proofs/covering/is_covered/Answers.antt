use Rattle.laws.proofs.Prelude.{rules, arith, ◌≡◌, sym, ℕ}
use Prim.Native.Nat.{max}
use Rattle.std.specs.Ordering.{nat_cmp, ord_max}
use Rattle.sheet.proofs.Coverings.{pass_none, pass_more, pass_stop, keep_zeros}
use Rattle.sheet.proofs.covering.is_covered.Goals as goal

pub loop-i-init : goal.loop-i-init
loop-i-init c = (λ j l. keep_zeros _ (c.fill.ensures.after (λ y e. e)) j (omega arith) (c.keep_longest.ensures j (omega arith)), pass_none _)

larger : (a b r : ℕ) → r ≡ ord_max nat_cmp a b → r ≡ max a b
larger a b r e = search rules

pub returns-then-far-i : goal.returns-then-far-i
returns-then-far-i c =
    let l = c.loop-i in
    record {
      answer = sym (pass_stop l.invariant.1 (l.invariant.0 l.i c.loop-i-test.true) (larger _ _ _ c.max-far.ensures) c.if-far-i.true _ (omega arith));
      left = search rules;
    }

pub loop-i-preserved : goal.loop-i-preserved
loop-i-preserved c =
    let l = c.loop-i in
    (l.invariant.0, pass_more l.invariant.1 (l.invariant.0 l.i c.loop-i-test.true) (larger _ _ _ c.max-far.ensures) c.if-far-i.false)
