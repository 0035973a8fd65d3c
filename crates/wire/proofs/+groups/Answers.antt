use Rattle.laws.proofs.Prelude.{lt-ltb, lt-leb, arith, ◌-◌, ◌<◌, told, known}
use Rattle.wire.specs.Number.{last_group}
use Rattle.wire.proofs.{FieldsAtFront.byte_small, NumberGroups.next_group, NumberGroups.scale_small, NumberGroups.group_small, NumberGroups.next_place}
use Rattle.wire.proofs.+groups.Goals as goal
use Rattle.wire.proofs.+groups.Goals.{then-shortest+else-n-le4294967295, else-shortest}

-- One group, or one and the groups above it: the groups that are left fall at each call.

pub overflow_mul-n : goal.overflow_mul-n
overflow_mul-n t c =
    let a = c.args in
    let more : 0 < a.left = omega (arith, c.if-left-eq0.false) in
    omega (arith, group_small c.requires more c.in_ok-b.b (omega (arith, c.if-b-lt128.true)))

pub overflow_add-n : goal.overflow_add-n
overflow_add-n t c =
    let a = c.args in
    let place = c.requires in
    let more : 0 < a.left = omega (arith, c.if-left-eq0.false) in
    omega (arith, place.less, scale_small place more, group_small place more c.in_ok-b.b (omega (arith, c.if-b-lt128.true)))

pub returns-then-b-lt128 : goal.returns-then-b-lt128
unfolding last_group
returns-then-b-lt128 t c =
    let a = c.args in
    let more : 0 < a.left = omega (arith, c.if-left-eq0.false) in
    let b = c.in_ok-b.b in
    let group = next_group a.scale a.low a.s.now (told c.byte.ensures c.in_ok-b.was) a.left more in
    let byte = lt-ltb b 256 (omega (arith, c.if-b-lt128.true)) in
    let last = lt-ltb b 128 c.if-b-lt128.true in
    record {
      answer = elim c.if-shortest.branch [
        | then-shortest+else-n-le4294967295 w ↦
            rw (group, byte, last, known c.shortest.ensures w.if-shortest.true, lt-leb _ _ w.if-n-le4294967295.false)
        | else-shortest w ↦ rw (group, byte, last, known c.shortest.ensures w.if-shortest.false)
      ];
      bounds = tt;
    }

pub overflow_mul-scale : goal.overflow_mul-scale
overflow_mul-scale t c =
    let more : 0 < c.args.left = omega (arith, c.if-left-eq0.false) in
    omega (arith, scale_small c.requires more)

pub overflow_mul-scale-2 : goal.overflow_mul-scale-2
overflow_mul-scale-2 t c =
    let a = c.args in
    let more : 0 < a.left = omega (arith, c.if-left-eq0.false) in
    let small = byte_small a.s.now (told c.byte.ensures c.in_ok-b.was) (λ i. (c.type_inv.s i).fits) in
    omega (arith, group_small c.requires more (c.in_ok-b.b - 128) (omega (arith, small)))

pub overflow_add-low : goal.overflow_add-low
overflow_add-low t c =
    let a = c.args in
    let place = c.requires in
    let more : 0 < a.left = omega (arith, c.if-left-eq0.false) in
    let small = byte_small a.s.now (told c.byte.ensures c.in_ok-b.was) (λ i. (c.type_inv.s i).fits) in
    omega (arith, place.less, scale_small place more, group_small place more (c.in_ok-b.b - 128) (omega (arith, small)))

pub groups-requires : goal.groups-requires
groups-requires t c =
    let a = c.args in
    let more : 0 < a.left = omega (arith, c.if-left-eq0.false) in
    let small = byte_small a.s.now (told c.byte.ensures c.in_ok-b.was) (λ i. (c.type_inv.s i).fits) in
    (omega arith, next_place c.requires more c.in_ok-b.b small)
