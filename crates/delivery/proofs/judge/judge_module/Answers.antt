use Rattle.laws.proofs.Prelude.{rules, sym, length-take-le}
use Rattle.arguments.proofs.Chains.{check_passed}
use Rattle.delivery.proofs.{Reported.reported, ReportEntries.none_late, ReportEntries.some_late}
use Rattle.delivery.proofs.judge.judge_module.Goals as goal

pub slice_bounds-late_entry-end : goal.slice_bounds-late_entry-end
slice_bounds-late_entry-end c =
    let is = check_passed c.ok.ensures.value c.in_ok-n.was in
    (reported (rw is at c.module_info.ensures)).1.within

pub slice_bounds-late_entry-end-2 : goal.slice_bounds-late_entry-end-2
slice_bounds-late_entry-end-2 c =
    let is = check_passed c.ok.ensures.value c.in_ok-n.was in
    sym (length-take-le _ _ (reported (rw is at c.module_info.ensures)).1.within)

pub returns-in_err-late_entry : goal.returns-in_err-late_entry
returns-in_err-late_entry c =
    let is = check_passed c.ok.ensures.value c.in_ok-n.was in
    let report = (reported (rw is at c.module_info.ensures)).1 in
    rw c.from_residual-in_err-late_entry.ensures
    (record {
      answer = λ zero. none_late report _ c.late_entry.result c.late_entry.ensures.answer c.in_err-late_entry.was;
      bounds = tt;
      left = search rules;
    })

pub returns : goal.returns
returns c =
    let is = check_passed c.ok.ensures.value c.in_ok-n.was in
    let report = (reported (rw is at c.module_info.ensures)).1 in
    record {
      answer = λ zero. some_late report _ c.late_entry.result c.late_entry.ensures.answer c.in_ok-late_entry.was;
      bounds = report.within;
      left = search rules;
    }
