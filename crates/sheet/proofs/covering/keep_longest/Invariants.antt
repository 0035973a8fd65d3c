use Rattle.laws.proofs.Prelude.{◌≡◌, length}
use Rattle.sheet.specs.code.Tables.{groups_in}
use Rattle.sheet.proofs.Coverings.{Keeping}
use Rattle.sheet.proofs.covering.keep_longest.Given as goal

abbrev pub invariant-loop-row : goal.invariant-loop-row
invariant-loop-row l =
    (length l.longest ≡ length l.initial.longest) × Keeping (groups_in l.groups) (length l.initial.longest) l.initial.longest l.longest l.row-index
