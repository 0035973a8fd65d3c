use Rattle.laws.proofs.Prelude.{ℕ, Bool, eqb, eqb-true, rules}
use Rattle.text.proofs.bytes.next_nonzero.Goals as goal

pub returns : goal.returns
returns c =
    let r = c.skip_while.ensures in
    let p : ℕ → Bool = λ x. eqb x 0 in
    record { from = r.passed.from; to = r.passed.to; each = λ k l h. eqb-true _ _ (r.passed.each p (λ b q m e. search rules) k l h) }
