-- the levels that are left
use Rattle.arguments.proofs.bin.+visit_bin.Given as goal

abbrev pub decreases-visit_bin : goal.decreases-visit_bin
decreases-visit_bin l = l.levels
