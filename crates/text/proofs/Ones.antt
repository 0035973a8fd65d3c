-- A test counts for one at most.
use Rattle.laws.proofs.Prelude.{Bool, true, false, ◌≤◌, arith}
use Rattle.text.specs.Truth.{one}

pub one_most : (b : Bool) → one b ≤ 1
one_most true = omega arith
one_most false = omega arith
