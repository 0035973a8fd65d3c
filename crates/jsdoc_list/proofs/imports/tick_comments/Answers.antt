use Rattle.laws.proofs.Prelude.{◌∙◌, length-replicate}
use Rattle.jsdoc_list.proofs.Ticking.{of_source, ticked_placed}
use Rattle.jsdoc_list.proofs.imports.tick_comments.Goals as goal

pub loop-c-init : goal.loop-c-init
loop-c-init c =
    let a = c.args.comments.now in
    let ticks = c.requires in
    rw (c.into_iter-c-iterator.ensures.into_iter_gives ∙ c.iter-c-items.ensures, ticks)
    (tt, tt, of_source a.source a.comments, length-replicate _ _, ticked_placed a.source a.comments _)
