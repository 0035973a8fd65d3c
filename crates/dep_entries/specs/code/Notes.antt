-- Rows of two numbers noted in a slice that is lent: the first says how many numbers there are, and they follow it. Where there is no room for a row,
-- nothing is noted.
use Rattle.std.specs.Prelude.{cond, List, [], ◌∷◌, ℕ, ◌+◌, ltb, length, set}
use Rattle.dep_entries.specs.Entries.{Noted}

-- a row behind those that stand there
unfoldable pub noted : List ℕ → ℕ → ℕ → List ℕ
noted [] start number = []
noted (count ∷ numbers) start number =
    cond (ltb (count + 1) (length numbers)) ((count + 2) ∷ set (set numbers count start) (count + 1) number) (count ∷ numbers)

-- the rows of dependencies, one after the other
abbrev pub all_noted : List ℕ → List Noted → List ℕ
all_noted notes [] = notes
all_noted notes (e ∷ l) = all_noted (noted notes e.start e.number) l
