-- the levels that are left
use Rattle.arguments.proofs.bin.+put_bin.Given as goal

abbrev pub decreases-put_bin : goal.decreases-put_bin
decreases-put_bin l = l.levels
