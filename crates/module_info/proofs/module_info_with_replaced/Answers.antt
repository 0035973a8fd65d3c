use Rattle.laws.proofs.Prelude.{length}
use Rattle.wire.specs.Refusals.{number_of}
use Rattle.module_info.proofs.Demanded.{demanded, refusal_demanded, empty_demanded}
use Rattle.module_info.proofs.Notes.{empty_notes, refusal_notes, sheet_notes}
use Rattle.module_info.proofs.module_info_with_replaced.Goals as goal

pub returns-in-Ok-None : goal.returns-in-Ok-None
returns-in-Ok-None c =
    let none = rw (c.in-Ok-None.is, c.in-Ok-None.field-0-is) at c.judge.ensures in
    record {
      answer = empty_demanded _ none c.write_default.ensures;
      beside = empty_notes (length c.args.notes.now) _ none (c.fill.ensures.after (λ y e. e));
    }

pub returns-in-Err : goal.returns-in-Err
returns-in-Err c =
    let (some, refused) = rw c.in-Err.is at c.judge.ensures in
    record {
      answer = refusal_demanded _ some refused (c.refuse_all.ensures number_of);
      beside = refusal_notes (length c.args.notes.now) _ some refused (c.fill.ensures.after (λ y e. e));
    }

pub returns-in-Ok-Some : goal.returns-in-Ok-Some
returns-in-Ok-Some c =
    let some = c.in-Ok-Some in
    let is = rw (some.is, some.field-0-is) at c.judge.ensures in
    let e = rw is at some.accepted.accepted.1 in
    record {
      answer = demanded e c.write_noted_report.ensures.answer;
      beside = sheet_notes _ _ e (rw c.fill.auto.self at c.write_noted_report.ensures.beside);
    }
