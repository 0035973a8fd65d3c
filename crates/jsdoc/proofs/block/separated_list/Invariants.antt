use Rattle.laws.proofs.Prelude.{◌≡◌, length}
use Rattle.jsdoc.specs.Reader.{unnamed, separated_list}
use Rattle.jsdoc.proofs.block.separated_list.Given as goal

abbrev pub invariant-loop-n : goal.invariant-loop-n
invariant-loop-n l = separated_list unnamed l.s ≡ separated_list l.mode l.rest

abbrev pub decreases-loop-n : goal.decreases-loop-n
decreases-loop-n l = length l.rest
