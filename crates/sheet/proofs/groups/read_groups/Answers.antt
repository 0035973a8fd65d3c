use Rattle.laws.proofs.Prelude.{arith, told}
use Rattle.sheet.proofs.CommentCodecs.{group_codec}
use Rattle.sheet.proofs.Filling.{fill_more}
use Rattle.sheet.proofs.groups.read_groups.Goals as goal

pub new-requires : goal.new-requires
new-requires c =
    let ranged = ((group_codec c.args.source.now _ _).sound _ _ _ (told c.read_group.ensures c.in_ok-g.was)).1 in
    (omega (arith, ranged.small.0), omega (arith, ranged.small.1), omega (arith, ranged.small.2))

pub loop-row-preserved : goal.loop-row-preserved
loop-row-preserved c =
    fill_more c.loop-row.invariant c.loop-row-test.true (told c.read_group.ensures c.in_ok-g.was) c.new.result c.new.ensures
