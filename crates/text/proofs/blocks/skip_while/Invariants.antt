use Rattle.text.specs.code.Places.{Passed}
use Rattle.text.proofs.blocks.skip_while.Given as goal

abbrev pub invariant-loop-i : goal.invariant-loop-i
invariant-loop-i g l = Passed (goal.F-post g l.test) l.s l.at l.i
