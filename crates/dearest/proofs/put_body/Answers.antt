use Rattle.dearest.proofs.{Bodies.star_put}
use Rattle.dearest.proofs.put_body.Goals as goal

pub returns : goal.returns
returns c = rw (c.fill.ensures.after (λ y e. e)) (star_put _ c.requires)
