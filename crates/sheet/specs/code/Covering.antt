-- How the comments that are in some group are found in linear time.
use Rattle.std.specs.Prelude.{cond, List, [], ◌∷◌, ℕ, max, eqb}
use Rattle.sheet.specs.declared.groups.Group.{Group}

-- how many comments the longest of the groups has that begin at the comment of an index; 0 where none does
unfoldable pub longest_at : List Group → ℕ → ℕ
longest_at [] i = 0
longest_at (g ∷ gs) i = max (cond (eqb g.first i) g.count 0) (longest_at gs i)
