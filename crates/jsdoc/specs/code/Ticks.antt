-- A table of ticks over a body: at q stands 1 + the number of m exactly where P q m, and 0 elsewhere.
use Rattle.std.specs.Prelude.{◌≡◌, List, ℕ, ◌+◌, length, get_or}
use Rattle.analysis.specs.Mode.{Mode, mode_number}

pub record Ticks (P : ℕ → Mode → Type 0) (n : ℕ) (l : List ℕ) : Type 0 where
  pub same : length l ≡ n
  pub sound : (q k : ℕ) → get_or l q 0 ≡ k + 1 → (m : Mode) × (mode_number m ≡ k) × P q m
  pub complete : (q : ℕ) (m : Mode) → P q m → get_or l q 0 ≡ mode_number m + 1
