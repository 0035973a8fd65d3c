use Rattle.laws.proofs.Prelude.{arith, refl}
use Rattle.wire.proofs.{FieldsAtFront.behind_front, NumberGroups.one_group, NumberGroups.two_groups, NumberGroups.three_groups}
use Rattle.wire.proofs.RefSliceU8Cursor.number.Goals as goal

-- One, two or three groups.

pub returns-in-len1-up : goal.returns-in-len1-up
returns-in-len1-up c =
    let s = c.args.self.now in
    let h = c.in-len1-up.len_at_least in
    behind_front s 1 refl (omega arith) h (one_group s h c.if-a-lt128.true)

pub returns-in-len2-up : goal.returns-in-len2-up
returns-in-len2-up c =
    let s = c.args.self.now in
    let h = c.in-len2-up.len_at_least in
    behind_front s 2 refl (omega arith) h (two_groups s h c.if-a-lt128.false (c.type_inv.self 0).fits c.if-b-gt0.true c.if-b-lt128.true)

pub returns-in-len3-up : goal.returns-in-len3-up
returns-in-len3-up c =
    let s = c.args.self.now in
    let h = c.in-len3-up.len_at_least in
    behind_front s 3 refl (omega arith) h
    (three_groups s h c.if-a-lt128.false (c.type_inv.self 0).fits c.if-b-ge128.true (c.type_inv.self 1).fits c.if-c-gt0.true c.if-c-lt128.true)
