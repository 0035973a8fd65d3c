use Rattle.laws.proofs.Prelude.{◌≡◌, length}
use Rattle.jsdoc.specs.Reader.{seek}
use Rattle.jsdoc.proofs.dynamic_import.seek.Given as goal

abbrev pub invariant-scan : goal.invariant-scan
invariant-scan l = seek l.s ≡ seek l.rest

abbrev pub decreases-scan : goal.decreases-scan
decreases-scan l = length l.rest
