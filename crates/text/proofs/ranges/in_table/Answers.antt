use Rattle.text.proofs.{Bounds.odd}
use Rattle.text.proofs.ranges.in_table.Goals as goal

pub returns : goal.returns
returns c = λ rs e. odd rs (rw e at c.at_most.ensures)
