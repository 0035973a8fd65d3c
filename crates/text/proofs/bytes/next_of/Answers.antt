use Rattle.laws.proofs.Prelude.{⊎_elim, Bool, ℕ, ◌+◌, not, eqb, arith, rules}
use Rattle.std.proofs.lemmas.Bool.{cases_lt}
use borrow.Author.Tests.{eqb-false, not-true}
use Rattle.text.proofs.bytes.next_of.Goals as goal

-- neither in the block nor in those skipped behind it
pub loop-i-preserved : goal.loop-i-preserved
loop-i-preserved c =
    let i = c.loop-i.i in
    let l = c.loop-i.invariant in
    let block = c.before_in_block-k.ensures in
    let r = c.skip_blocks-i.ensures in
    let p : ℕ → Bool = λ x. not (eqb x c.args.b) in
    record {
      from = omega (arith, l.from, r.from);
      to = r.to;
      each = λ k at h. ⊎_elim (l.each k at)
          (λ u. ⊎_elim (λ v. eqb-false _ _ (block.fails k u (omega (arith, c.if-k-lt32.false))))
          (λ v. eqb-false _ _ (not-true _ (r.each p (λ x q m e. search rules) k v h)))
          (cases_lt k (i + 32)))
          (cases_lt k i);
    }
