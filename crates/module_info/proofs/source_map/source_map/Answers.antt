use Rattle.laws.proofs.Prelude.{sym, ap, ◌∙◌, handed}
use Rattle.module_info.specs.SourceMap.{given}
use Rattle.module_info.proofs.SourceMap.{of_sheet, source_map_right, none_right, refusal_right}
use Rattle.module_info.proofs.source_map.source_map.Goals as goal

pub returns-in_default : goal.returns-in_default
returns-in_default c = none_right _ (rw (c.in_ok-accepted.was, c.in_default.is) at c.judge.ensures)

pub returns-in_err-accepted : goal.returns-in_err-accepted
returns-in_err-accepted c =
    let refused = rw c.in_err-accepted.was at c.judge.ensures in
    rw (handed _ c.from_residual.ensures) (refusal_right _ _ refused.0 refused.1)

pub returns : goal.returns
returns c =
    let is = rw (c.in_ok-accepted.was, c.in-Some.is) at c.judge.ensures in
    let read = rw is at c.read_source_map.ensures in
    source_map_right _ (ap given read.answer ∙ sym (of_sheet _ (rw is at c.in-Some.accepted.accepted.1))) read.bounds
