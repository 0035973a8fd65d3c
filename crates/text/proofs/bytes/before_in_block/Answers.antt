use Rattle.laws.proofs.Prelude.{arith, sym, eqb, eq-eqb, ne_eqb}
use Rattle.std.proofs.Common.{w8}
use Rattle.std.proofs.lemmas.Bool.{cond-true, cond-false}
use Rattle.std.proofs.lemmas.Simd.{length-chunk, bitmask_splat}
use lib.Lanes.{chunk}
use Rattle.text.proofs.Masks.{before_first}
use Rattle.text.proofs.bytes.before_in_block.Goals as goal

pub returns-then-found-eq0 : goal.returns-then-found-eq0
returns-then-found-eq0 c =
    let a = c.args in
    let long = length-chunk a.at 32 a.s.now c.requires in
    before_first (λ x. eqb x a.b) a.s.now a.at 32 _ 32 c.requires (omega arith) (bitmask_splat w8 eqb (chunk a.at 32 a.s.now) 32 a.b long (omega arith))
    (sym (cond-true _ _ _ (eq-eqb _ _ c.if-found-eq0.true)))

pub returns-else-found-eq0 : goal.returns-else-found-eq0
returns-else-found-eq0 c =
    let a = c.args in
    let long = length-chunk a.at 32 a.s.now c.requires in
    before_first (λ x. eqb x a.b) a.s.now a.at 32 _ _ c.requires (omega arith) (bitmask_splat w8 eqb (chunk a.at 32 a.s.now) 32 a.b long (omega arith))
    (sym (cond-false _ _ _ (ne_eqb _ _ c.if-found-eq0.false)))
