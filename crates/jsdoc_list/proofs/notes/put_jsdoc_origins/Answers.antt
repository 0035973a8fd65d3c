use Rattle.laws.proofs.Prelude.{refl, ◌∙◌}
use Rattle.jsdoc_list.proofs.{Openers.origins_placed, Ticking.of_source}
use Rattle.jsdoc_list.proofs.notes.put_jsdoc_origins.Goals as goal

pub loop-c-init : goal.loop-c-init
loop-c-init c =
    let a = c.args.comments.now in
    rw (c.into_iter-c-iterator.ensures.into_iter_gives ∙ c.iter-c-items.ensures)
    (tt, tt, of_source a.source a.comments, refl, rw (origins_placed a.source a.comments) refl)
