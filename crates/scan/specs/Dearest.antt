-- The dearest bodies of n bytes, where n is at least 1.
use Rattle.std.specs.Prelude.{◌≡◌, true, List, ◌∷◌, ℕ, ◌-◌, ◌*◌, ◌≤◌, length, replicate}
use Prim.Native.Char.{code}
use Rattle.scan.specs.Scan.{scan_sum, star_opened}

-- a star and then only `{`, n bytes in all
abbrev pub star_and_braces : ℕ → List ℕ
star_and_braces n = code "*" ∷ replicate (n - 1) (code "{")

-- star-opened, of n bytes; its scan sum is (n − 1)(n − 2), halved, and no star-opened body of n bytes has a greater one
pub record Dearest (n : ℕ) (body : List ℕ) : Type 0 where
  pub opened : star_opened body ≡ true
  pub bytes : length body ≡ n
  pub reaches : 2 * scan_sum body ≡ (n - 1) * (n - 2)
  pub most : (other : List ℕ) → star_opened other ≡ true → length other ≡ n → scan_sum other ≤ scan_sum body
