use Rattle.laws.proofs.Prelude.{rules, handed, length}
use Rattle.report.specs.Encode.{encode}
use Rattle.module_info.{specs.Information.module_info, proofs.Written.same_loan, proofs.Written.finished}
use Rattle.rules.specs.Rules.{rules_of}
use Rattle.rules.proofs.BothBuffers.{first_refused}
use Rattle.rules.proofs.write_ruled_report.Goals as goal

pub returns-in_err-report : goal.returns-in_err-report
returns-in_err-report c =
    let t = c.args.accepted.now.accepted.0 in
    rw (handed _ c.from_residual.ensures, c.write_noted_report.auto.buffer)
    (first_refused (length c.args.buffer.now) (length c.args.rules.now) (module_info t) (rules_of t) _ c.in_err-report.ensures.answer)

pub returns : goal.returns
returns c =
    let room = length c.args.rules.now in
    let t = c.args.accepted.now.accepted.0 in
    let accepted = rw c.in_ok-report.was at c.write_noted_report.ensures.answer in
    let noted = rw c.in_ok-report.was at c.write_noted_report.ensures.beside in
    let put = c.put_rules.ensures (c.rows_in.ensures (rw (← c.write_noted_report.auto.notes) at noted)) in
    let same = same_loan c.new-w.ensures c.put_rules.new.w (rules_of t) put in
    let written = finished c.new-w.ensures c.put_rules.new.w (rules_of t) put c.finish.result (search (rules, same)) c.finish.ensures in
    c.finish_rules.ensures (encode (module_info t)) (rules_of t) _ _ _ room accepted written
