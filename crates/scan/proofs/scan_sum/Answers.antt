use Rattle.laws.proofs.Prelude.{arith, ◌∙◌, sym}
use Rattle.laws.specs.Ascii.{ascii}
use Rattle.text.proofs.Words.{begins_is}
use Rattle.scan.proofs.Answered.{counted}
use Rattle.scan.proofs.scan_sum.Goals as goal

pub returns-then-starts_with : goal.returns-then-starts_with
returns-then-starts_with c =
    let body = c.args.body.now in
    counted body c.sum_of.ensures (omega arith) (begins_is (ascii "*") body ∙ sym c.if-starts_with.ensures.value)
