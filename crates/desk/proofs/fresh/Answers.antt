use Rattle.laws.proofs.Prelude.{refl}
use Rattle.desk.specs.{History.after, Block.ring, Block.queues_in}
use Rattle.desk.proofs.{Fairness.fair}
use Rattle.desk.proofs.fresh.Goals as goal

pub returns : goal.returns
unfolding ring queues_in after
returns c = (refl, fair)
