use Rattle.laws.proofs.Prelude.{rules}
use Rattle.report.specs.{Encode.encode, Buffer.Wrote}
use Rattle.module_info.specs.Information.{default_info}
use Rattle.module_info.proofs.{Empty.default_bytes, Written.same_loan, Written.finished}
use Rattle.module_info.proofs.write_default.Goals as goal

pub returns : goal.returns
returns c =
    let w = c.put_bytes.new.self in
    let written : Wrote c.new-w.result w (encode default_info) = rw default_bytes c.put_bytes.ensures in
    let same = same_loan c.new-w.ensures w (encode default_info) written in
    finished c.new-w.ensures w (encode default_info) written c.finish.result (search (rules, same)) c.finish.ensures
