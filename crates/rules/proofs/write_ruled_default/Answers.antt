use Rattle.laws.proofs.Prelude.{rules, handed, [], length}
use Rattle.report.{specs.Encode.encode, proofs.Buffers.wrote_none}
use Rattle.module_info.{specs.Information.default_info, proofs.Written.same_loan, proofs.Written.finished}
use Rattle.rules.proofs.BothBuffers.{first_refused}
use Rattle.rules.proofs.write_ruled_default.Goals as goal

pub returns-in_err-report : goal.returns-in_err-report
returns-in_err-report c =
    rw (handed _ c.from_residual.ensures, c.write_default.auto.buffer)
    (first_refused (length c.args.buffer.now) (length c.args.rules.now) default_info [] _ c.in_err-report.ensures)

pub returns : goal.returns
returns c =
    let room = length c.args.rules.now in
    let w = c.new.result in
    let accepted = rw c.in_ok-report.was at c.write_default.ensures in
    let same = same_loan c.new.ensures w [] (wrote_none w) in
    let written = finished c.new.ensures w [] (wrote_none w) c.finish.result (search (rules, same)) c.finish.ensures in
    c.finish_rules.ensures (encode default_info) [] _ _ _ room accepted written
