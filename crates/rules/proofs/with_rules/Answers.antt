use Rattle.laws.proofs.Prelude.{sym, ◌∙◌}
use Rattle.rules.proofs.BothBuffers.{both_right, cleared_refusal, cleared_accepted}
use Rattle.rules.proofs.with_rules.Goals as goal

pub returns-then-is_err : goal.returns-then-is_err
returns-then-is_err c =
    let refuses = sym c.is_err.ensures.value ∙ c.if-is_err.true in
    let zeros = cleared_refusal _ _ _ refuses (c.fill.ensures.after (λ y e. e)) (c.fill-then-is_err.ensures.after (λ y e. e)) in
    both_right _ (zeros ∙ c.write_both-answer.ensures)

pub returns-else-is_err : goal.returns-else-is_err
returns-else-is_err c =
    let accepts = sym c.is_err.ensures.value ∙ c.if-is_err.false in
    both_right _ (cleared_accepted _ _ _ accepts ∙ c.write_both-answer.ensures)
