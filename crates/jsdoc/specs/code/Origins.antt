-- A table of origins over a body: at q stands 1 + the smallest k with P k q, and 0 where there is none.
use Rattle.std.specs.Prelude.{◌≡◌, List, ℕ, ◌+◌, ◌≤◌, length, get_or}
use Rattle.analysis.specs.Mode.{Mode}
use Rattle.jsdoc.specs.Grammar.{Bytes, From}

pub record Origins (P : ℕ → ℕ → Type 0) (n : ℕ) (l : List ℕ) : Type 0 where
  pub same : length l ≡ n
  pub sound : (q k : ℕ) → get_or l q 0 ≡ k + 1 → P k q
  pub least : (q k j : ℕ) → get_or l q 0 ≡ k + 1 → P j q → k ≤ j
  pub complete : (q k : ℕ) → P k q → get_or l q 0 ≡ 0 → ⊥

-- the place k of a body reads a quote that begins at q
abbrev pub ReadsBy : (Bytes → Bytes → Bytes → Mode → Type 0) → Bytes → ℕ → ℕ → Type 0
ReadsBy R b k q = (m : Mode) × From R b k q m
