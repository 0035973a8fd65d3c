use Rattle.laws.proofs.Prelude.{arith, told, sym}
use Rattle.sheet_heads.specs.code.Parts.{property_head}
use Rattle.sheet_heads.proofs.Outside.{no_property}
use Rattle.sheet_heads.proofs.parts.read_property.Goals as goal

pub returns-in_err-key-in-2 : goal.returns-in_err-key-in-2
unfolding property_head
returns-in_err-key-in-2 c = rw (told c.byte.ensures c.in_ok-kind.was, c.in-2.is) (grind arith)

pub returns-in_ok-key-in-2 : goal.returns-in_ok-key-in-2
unfolding property_head
returns-in_ok-key-in-2 c = rw (told c.byte.ensures c.in_ok-kind.was, c.in-2.is) (grind arith)

pub returns-in_default : goal.returns-in_default
returns-in_default c =
    record { answer = sym (no_property _ c.args.s.now (told c.byte.ensures c.in_ok-kind.was) (omega arith)); bounds = tt }
