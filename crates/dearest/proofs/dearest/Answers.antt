use Rattle.laws.proofs.Prelude.{arith, length-take-le}
use Rattle.dearest.proofs.{Numerals.facts, Writing.writes_body, Writing.writes_nothing}
use Rattle.dearest.proofs.dearest.Goals as goal

pub returns-in_default : goal.returns-in_default
returns-in_default c = λ input read. writes_nothing read c.in_default.ensures

pub put_body-requires : goal.put_body-requires
put_body-requires c =
    let s = c.in-Some.ensures in
    rw (length-take-le c.in-Some.size c.args.room.now (omega (arith, s.0.number.1))) (facts s.0.number.0).positive

pub returns : goal.returns
returns c =
    let s = c.in-Some.ensures in
    λ input read. writes_body read s (rw (length-take-le c.in-Some.size c.args.room.now (omega (arith, s.0.number.1))) at c.put_body.ensures)
