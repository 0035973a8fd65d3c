-- What the functions answer, as the definitions say it.
use Rattle.std.specs.Prelude.{◌≡◌, ℕ, Option, Some, None}

-- the answer to the question of which number P holds: the one such number, or that there is none
abbrev pub Settles : (ℕ → Type 0) → Option ℕ → Type 0
Settles P (Some n) = P n × ((m : ℕ) → P m → m ≡ n)
Settles P None = (m : ℕ) → P m → ⊥
