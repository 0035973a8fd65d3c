-- A star and then only `{`.
use Rattle.laws.proofs.Prelude.{◌≡◌, refl, ℕ, zero, suc, ◌-◌, ◌≤◌, code, arith, replicate, set}
use Rattle.scan.specs.Dearest.{star_and_braces}

-- a star is put over the first brace
pub star_put : (n : ℕ) → 1 ≤ n → set (replicate n (code "{")) 0 (code "*") ≡ star_and_braces n
star_put zero h = absurd (omega arith)
star_put (suc n) h = let e : suc n - 1 ≡ n = omega arith in rw e refl
