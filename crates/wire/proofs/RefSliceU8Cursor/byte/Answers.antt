use Rattle.laws.proofs.Prelude.{arith, refl}
use Rattle.wire.proofs.FieldsAtFront.{byte_front, behind_front}
use Rattle.wire.proofs.RefSliceU8Cursor.byte.Goals as goal

pub returns-in-len1-up : goal.returns-in-len1-up
returns-in-len1-up c =
    let s = c.args.self.now in
    behind_front s 1 refl (omega arith) c.in-len1-up.len_at_least (byte_front s c.in-len1-up.len_at_least)
