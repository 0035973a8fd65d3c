use Rattle.laws.proofs.Prelude.{◌≡◌, ◌∷◌}
use Rattle.std.specs.List as list
use Rattle.attributes.proofs.pairs.insert_before.Given as goal

-- the carried pair before the row that comes next
abbrev pub invariant-loop-row : goal.invariant-loop-row
invariant-loop-row l = list.insert l.row-items l.row-index l.carried ≡ l.p ∷ l.initial.row-items
