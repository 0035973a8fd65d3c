-- The bounds that the functions keep: numbers of four bytes, and counts that cannot overflow.
use Rattle.std.specs.Prelude.{List, ℕ, ◌+◌, ◌≤◌, Option, Some, None}
use Rattle.std.specs.Borrow.{Bor}
use Rattle.replay.specs.declared.{Counts.Counts}

-- a number of four bytes
abbrev pub NumberFits : Option (ℕ × Bor (List ℕ)) → Type 0
NumberFits (Some p) = p.0 ≤ 4294967295
NumberFits None = Unit {0}

-- so many more sheets can be counted
abbrev pub Room : ℕ → Counts → Type 0
Room left k = (k.accepted + k.refused + left ≤ 4294967295) × (k.differ + left ≤ 4294967295)

-- the counts of a list are small
abbrev pub Printable : Option Counts → Type 0
Printable (Some k) = Room 0 k
Printable None = Unit {0}
