-- The rows of the notes.
use Rattle.std.specs.Prelude.{List, map, ℕ, get_or}

-- where the nodes of dependencies start: the first number of each row
abbrev pub starts_in : List (List ℕ) → List ℕ
starts_in = map (λ row. get_or row 0 0)
