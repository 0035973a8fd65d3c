-- What the functions answer, as the definitions say it.
use Rattle.std.specs.Prelude.{◌≡◌, List, ℕ, ◌+◌, ◌-◌, ◌*◌, ◌≤◌, length, Option, Some, None}
use Rattle.scan.specs.Scan.{scanned}

-- the answer to a body: its scan sum, which for n bytes is at most (n − 1)(n − 2), halved
pub record Counted (body : List ℕ) (r : Option ℕ) : Type 0 where
  pub answer : r ≡ scanned body
  pub bound : (s : ℕ) → r ≡ Some s → 2 * s ≤ (length body - 1) * (length body - 2)

-- the answer as one number: 0 for none, else the sum and 1
abbrev pub packed : Option ℕ → ℕ
packed None = 0
packed (Some s) = s + 1
