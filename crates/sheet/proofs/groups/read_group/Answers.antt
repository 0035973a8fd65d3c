use Rattle.laws.proofs.Prelude.{arith, told}
use Rattle.wire.proofs.NumberCodec.{number_codec}
use Rattle.sheet.proofs.groups.read_group.Goals as goal

pub reaches-requires : goal.reaches-requires
reaches-requires c = (
  omega (arith, (number_codec.sound _ _ _ (told c.number.ensures c.in_ok-first.was)).1),
  omega (arith, (number_codec.sound _ _ _ (told c.number-2.ensures c.in_ok-count.was)).1),
)
