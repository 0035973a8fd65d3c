use Rattle.laws.proofs.Prelude.{arith}
use Rattle.desk.proofs.{Blocks.front_served, Blocks.front_sheet}
use Rattle.desk.proofs.serve.Goals as goal

pub returns : goal.returns
returns c =
    let counted = c.waiting-count.ensures in
    let row = c.row-row.ensures.answer in
    let below = c.row-row.ensures.bounds in
    record {
      answer = rw row (front_sheet _ _ _ (omega arith) below counted (omega arith));
      left = rw row (front_served _ _ _ (omega arith) below counted (omega arith) _ _ _ (omega arith) (omega arith) (omega arith));
    }
