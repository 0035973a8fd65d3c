-- What a search says of the places that it passed.
use Rattle.std.specs.Prelude.{◌≡◌, Bool, true, false, List, ℕ, ◌+◌, ◌≤◌, ◌<◌, length, get_or, count_by}

-- p is what a test answers, by the answers that it may give of a byte
abbrev pub TestOf : (ℕ → Bool → Type 0) → (ℕ → Bool) → Type 0
TestOf gives p = (b : ℕ) (r : Bool) → b < 256 → gives b r → r ≡ p b

-- n is how many bytes of s pass the test
abbrev pub Counts : (ℕ → Bool → Type 0) → List ℕ → ℕ → Type 0
Counts gives s n = (p : ℕ → Bool) → TestOf gives p → n ≡ count_by p s

-- the first n bytes pass it
abbrev pub AllPass : (ℕ → Bool → Type 0) → List ℕ → ℕ → Type 0
AllPass gives s n = (p : ℕ → Bool) → TestOf gives p → (k : ℕ) → k < n → p (get_or s k 0) ≡ true

-- r of the n bytes from `at` on stand before the first that passes p, all where none does
pub record Before (p : ℕ → Bool) (s : List ℕ) (at n r : ℕ) : Type 0 where
  pub most : r ≤ n
  pub fails : (k : ℕ) → at ≤ k → k < at + r → p (get_or s k 0) ≡ false
  pub stops : r < n → p (get_or s (at + r) 0) ≡ true

-- from `at` on to r, of n places at most: P holds of each place between
pub record Passing (P : ℕ → Type 0) (at n r : ℕ) : Type 0 where
  pub from : at ≤ r
  pub to : r ≤ n
  pub each : (k : ℕ) → at ≤ k → k < r → P k

-- the bytes from `at` on to r pass the test
pub record Passed (gives : ℕ → Bool → Type 0) (s : List ℕ) (at r : ℕ) : Type 0 where
  pub from : at ≤ r
  pub to : r ≤ length s
  pub each : (p : ℕ → Bool) → TestOf gives p → (k : ℕ) → at ≤ k → k < r → p (get_or s k 0) ≡ true

-- and that at r, if there is one, does not
pub record Skips (gives : ℕ → Bool → Type 0) (s : List ℕ) (at r : ℕ) : Type 0 where
  pub passed : Passed gives s at r
  pub there : (p : ℕ → Bool) → TestOf gives p → r < length s → p (get_or s r 0) ≡ false

-- the first place of b in s from `at` on, or the end
pub record First (b : ℕ) (s : List ℕ) (at r : ℕ) : Type 0 where
  pub passed : Passing (λ k. get_or s k 0 ≡ b → ⊥) at (length s) r
  pub there : r < length s → get_or s r 0 ≡ b
