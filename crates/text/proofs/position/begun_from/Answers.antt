use Rattle.laws.proofs.Prelude.{ℕ, Bool, arith, rules, ltb, ltb-true}
use Rattle.text.proofs.{Sums.begun_ascii}
use Rattle.text.proofs.position.begun_from.Goals as goal

pub returns-then-all_in_block : goal.returns-then-all_in_block
returns-then-all_in_block c =
    let a = c.args in
    let p : ℕ → Bool = λ b. ltb b 128 in
    let all = (c.all_in_block.ensures c.if-all_in_block.true).1 p (λ b r m e. search rules) in
    begun_ascii a.block.now a.k 64 (omega arith) (omega arith) (λ i l. ltb-true _ _ (all i l))
