use Rattle.laws.proofs.Prelude.{handed, sym, ◌∙◌}
use Rattle.rules.proofs.BothBuffers.{both_empty, both_refusal, both_sheet}
use Rattle.rules.proofs.write_both.Goals as goal

pub returns-in_err-judge : goal.returns-in_err-judge
returns-in_err-judge c =
    let (some, refused) = rw c.in_err-judge.was at c.judge.ensures in
    rw (handed _ c.from_residual.ensures) (sym (both_refusal _ _ _ some refused))

pub returns-in-None : goal.returns-in-None
returns-in-None c =
    let none = rw (c.in_ok-judge.was, c.in-None.is) at c.judge.ensures in
    c.write_ruled_default.ensures ∙ sym (both_empty _ _ _ none)

pub returns-in-Some : goal.returns-in-Some
returns-in-Some c =
    let is = rw (c.in_ok-judge.was, c.in-Some.is) at c.judge.ensures in
    c.write_ruled_report.ensures ∙ sym (both_sheet _ _ _ (rw is at c.in-Some.accepted.accepted.1))
