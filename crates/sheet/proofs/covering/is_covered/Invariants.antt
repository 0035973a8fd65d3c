use Rattle.laws.proofs.Prelude.{◌≡◌, ℕ, ◌<◌, length, get_or}
use Rattle.sheet.specs.code.{Tables.groups_in, Covering.longest_at}
use Rattle.sheet.proofs.Coverings.{Passed}
use Rattle.sheet.proofs.covering.is_covered.Given as goal

abbrev pub invariant-loop-i : goal.invariant-loop-i
invariant-loop-i l = ((j : ℕ) → j < length l.count-items → get_or l.count-items j 0 ≡ longest_at (groups_in l.groups) j) × Passed (groups_in l.groups) l.i l.far
