use Rattle.laws.proofs.Prelude.{arith, told}
use Rattle.sheet.proofs.CommentCodecs.{comment_codec}
use Rattle.sheet.proofs.Filling.{fill_more}
use Rattle.sheet.proofs.comments.read_comments.Goals as goal

pub new-requires : goal.new-requires
new-requires c =
    let judged = ((comment_codec c.args.source.now _).sound _ _ _ (told c.read_comment.ensures c.in_ok-found.was)).1 in
    (omega (arith, judged.small.0), omega (arith, judged.small.1))

pub loop-row-preserved : goal.loop-row-preserved
loop-row-preserved c =
    fill_more c.loop-row.invariant c.loop-row-test.true (told c.read_comment.ensures c.in_ok-found.was) c.new.result c.new.ensures
