use Rattle.laws.proofs.Prelude.{arith}
use Rattle.desk.proofs.Calls.{refuses_over, refuses_full, accepts}
use Rattle.desk.proofs.hand_in.Goals as goal

pub returns-in_default : goal.returns-in_default
returns-in_default c = refuses_over _ _ _ c.in_default.ensures

pub returns-then-waiting-eq-PLACES : goal.returns-then-waiting-eq-PLACES
returns-then-waiting-eq-PLACES c =
    let (same, below) = c.in-Some.ensures in
    rw same at (refuses_full c.args.block.now c.in-Some.known c.args.sheet (omega arith) (omega arith))

pub returns : goal.returns
returns c =
    let (same, below) = c.in-Some.ensures in
    rw same at (accepts c.args.block.now c.in-Some.known c.args.sheet (omega arith) _ (omega arith) c.append.ensures)
