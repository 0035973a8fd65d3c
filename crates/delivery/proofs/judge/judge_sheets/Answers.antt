use Rattle.laws.proofs.Prelude.{rules, sym, ◌∙◌}
use Rattle.delivery.proofs.{Rows.next_row, Turns.refused_here, Turns.reported_here, Reported.reported, Reported.refused_number}
use Rattle.delivery.proofs.judge.judge_sheets.Goals as goal

pub returns-in-Err : goal.returns-in-Err
returns-in-Err c =
    let l = c.loop-i in
    let (number, some) = refused_number (rw (l.invariant.0, c.in-Err.is) at c.module_info.ensures) in
    record {
      answer = λ behind. sym (l.invariant.1 behind ∙ refused_here (next_row _ _ _ c.loop-i-test.true) _ l.i behind number some);
      left = search rules;
    }

pub loop-i-preserved : goal.loop-i-preserved
loop-i-preserved c =
    let l = c.loop-i in
    let (zero, _) = reported (rw (l.invariant.0, c.in_default.is) at c.module_info.ensures) in (
      c.module_info.auto.buffer ∙ l.invariant.0,
      λ behind. l.invariant.1 behind ∙ reported_here (next_row _ _ _ c.loop-i-test.true) _ l.i behind zero,
    )
