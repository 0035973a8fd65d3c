use Rattle.laws.proofs.Prelude.{sym, ◌∙◌, ◌+◌, take, drop, length-take-le}
use Rattle.delivery.specs.{Order.modules_in_turn, Right.Reported, Right.names_of, code.Views.modules_in}
use Rattle.delivery.proofs.{Rows.row_has, Rows.module_at, ReportEntries.late_again}
use Rattle.delivery.proofs.judge.judge_order.Goals as goal

pub slice_bounds-late_entry-end : goal.slice_bounds-late_entry-end
slice_bounds-late_entry-end c = sym (length-take-le _ _ (rw c.in-Some.is at c.judge_module.ensures.bounds))

pub returns-in_err-late : goal.returns-in_err-late
returns-in_err-late c =
    λ all.
    let l = c.loop-i in
    let zero = row_has (Reported _) _ _ _ c.loop-i-test.true all in
    let judged = rw (l.invariant.0, c.in-Some.is) at c.judge_module.ensures.answer in
    absurd ((late_again _ _ _ c.late_entry.result (judged zero) c.late_entry.ensures.answer).1 c.in_err-late.was)

pub returns-in-Some : goal.returns-in-Some
returns-in-Some c =
    λ all.
    let l = c.loop-i in
    let rows = c.args.modules.now in
    let behind = modules_in_turn (names_of (modules_in (take (l.i + 1) rows))) (l.i + 1) (modules_in (drop (l.i + 1) rows)) in
    let zero = row_has (Reported _) _ _ _ c.loop-i-test.true all in
    let judged = rw (l.invariant.0, c.in-Some.is) at c.judge_module.ensures.answer in
    let (found, _) = late_again _ _ _ c.late_entry.result (judged zero) c.late_entry.ensures.answer in
    rw c.in_ok-late.was at (found l.i behind) ∙ sym (l.invariant.1 all ∙ module_at _ _ _ c.loop-i-test.true)

pub loop-i-preserved : goal.loop-i-preserved
loop-i-preserved c =
    let l = c.loop-i in
    let judged = rw (l.invariant.0, c.in_default.is) at c.judge_module.ensures.answer in (
      c.judge_module.ensures.left ∙ l.invariant.0,
      λ all.
          let rows = c.args.modules.now in
          let behind = modules_in_turn (names_of (modules_in (take (l.i + 1) rows))) (l.i + 1) (modules_in (drop (l.i + 1) rows)) in
          let zero = row_has (Reported _) _ _ _ c.loop-i-test.true all in
          l.invariant.1 all ∙ module_at _ _ _ c.loop-i-test.true ∙ sym (judged zero l.i behind),
    )
