-- A row as the code has it: for each byte of a sequence, the first and the last that it may be.
use Rattle.std.specs.Prelude.{Bool, ◌&&◌, List, ℕ, map, zip, leb}
use Rattle.std.specs.List.{list_all}
use Rattle.text.specs.Ranges.{Range, ◌to◌}

abbrev pub ranges_of : List (ℕ × ℕ) → List Range
ranges_of row = map (λ r. r.0 to r.1) row

-- each byte lies in its range, as far as both go
abbrev pub all_within : List (ℕ × ℕ) → List ℕ → Bool
all_within row s = list_all (λ x. leb x.0.0 x.1 && leb x.1 x.0.1) (zip row s)
