use Rattle.laws.proofs.Prelude.{arith, sym}
use Rattle.sheet_heads.specs.code.Parts.{key_head}
use Rattle.sheet_heads.proofs.Outside.{no_key}
use Rattle.sheet_heads.proofs.parts.read_key.Goals as goal

pub returns-in_err-x-in-2 : goal.returns-in_err-x-in-2
unfolding key_head
returns-in_err-x-in-2 c = rw c.in-2.is (grind arith)

pub returns-in_ok-x-in-2 : goal.returns-in_ok-x-in-2
unfolding key_head
returns-in_ok-x-in-2 c = rw c.in-2.is (grind arith)

pub returns-in_default : goal.returns-in_default
returns-in_default c = record { answer = sym (no_key c.args.kind c.args.s.now (omega arith)); bounds = tt }
