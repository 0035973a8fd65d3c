use Rattle.laws.proofs.Prelude.{rules, sym, ap, ◌∙◌, length}
use Rattle.report.specs.{Encode.encode, Answer.zeros}
use Rattle.dep_entries.specs.code.Notes.{all_noted}
use Rattle.module_info.specs.{Information.module_info, Replaced.noted}
use Rattle.module_info.proofs.Notes.{accepted_notes, refused_notes}
use Rattle.module_info.proofs.Written.{same_loan, finished}
use Rattle.module_info.proofs.write_noted_report.Goals as goal

pub returns-then-is_err : goal.returns-then-is_err
returns-then-is_err c =
    let t = c.args.accepted.now.accepted.0 in
    let w = c.put_noted_report.new.w in
    let o = c.finish-outcome.result in
    let written = c.put_noted_report.ensures.answer in
    let same = same_loan c.new-w.ensures w (encode (module_info t)) written in
    let answer = finished c.new-w.ensures w (encode (module_info t)) written o (search (rules, same)) c.finish-outcome.ensures in
    record {
      answer = answer;
      beside = refused_notes (length c.args.notes.now) (length c.args.buffer.now) o _ (noted t) (module_info t)
          (sym c.is_err.ensures.value ∙ c.if-is_err.true) answer (c.fill.ensures.after (λ y e. e) ∙ ap zeros c.put_noted_report.auto.notes);
    }

pub returns-else-is_err : goal.returns-else-is_err
returns-else-is_err c =
    let t = c.args.accepted.now.accepted.0 in
    let w = c.put_noted_report.new.w in
    let o = c.finish-outcome.result in
    let written = c.put_noted_report.ensures.answer in
    let same = same_loan c.new-w.ensures w (encode (module_info t)) written in
    let answer = finished c.new-w.ensures w (encode (module_info t)) written o (search (rules, same)) c.finish-outcome.ensures in
    record {
      answer = answer;
      beside = accepted_notes (length c.args.notes.now) o _ (noted t) (sym c.is_err.ensures.value ∙ c.if-is_err.false)
          (c.put_noted_report.ensures.beside ∙ ap (λ l. all_noted l (noted t)) c.requires);
    }
