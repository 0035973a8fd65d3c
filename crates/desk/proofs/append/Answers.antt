use Rattle.laws.proofs.Prelude.{arith}
use Rattle.desk.proofs.{Blocks.appended}
use Rattle.desk.proofs.append.Goals as goal

pub returns : goal.returns
returns c =
    let row = c.row-row.ensures.answer in
    let below = c.row-row.ensures.bounds in
    rw row (appended _ _ _ (omega arith) below c.waiting-count.ensures (omega arith) _ _ (omega arith))
