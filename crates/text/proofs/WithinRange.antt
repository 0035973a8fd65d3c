-- A number within a range, by its order to the two ends; and within one of several ranges.
use Rattle.laws.proofs.Prelude.{◌≡◌, refl, Bool, true, false, and-eq-true_iff, List, [], ◌∷◌, ◌++◌, ◌↔◌, ℕ, ◌+◌, ◌≤◌, ◌<◌, arith, leb, leb-true, leb-false}
use Rattle.laws.proofs.Prelude.{le-leb, lt-leb}
use mathlib.Core.Bool.{or_assoc, or_comm}
use Rattle.text.specs.Ranges.{Range, ◌to◌, within, in_ranges}

pub within_iff : (lo hi x : ℕ) → (within (lo to hi) x ≡ true) ↔ ((lo ≤ x) × (x ≤ hi))
within_iff lo hi x = (
  λ t.
      let both = (and-eq-true_iff (leb lo x) (leb x hi)).0 t in
      (leb-true lo x both.0, leb-true x hi both.1),
  λ b. simp (le-leb lo x b.0, le-leb x hi b.1),
)

-- a range and the one right behind it are one range
pub merged : (qs : List Range) (a b c : ℕ) (rs : List Range) (x : ℕ) → (a ≤ b) × (b < c)
    → in_ranges (qs ++ (a to b) ∷ ((b + 1) to c) ∷ rs) x ≡ in_ranges (qs ++ (a to c) ∷ rs) x
unfolding in_ranges
merged [] a b c rs x h = go (leb x b) refl
  where
    go : (t : Bool) → leb x b ≡ t → in_ranges ((a to b) ∷ ((b + 1) to c) ∷ rs) x ≡ in_ranges ((a to c) ∷ rs) x
    go true e = let l = leb-true x b e in simp (e, le-leb x c (omega arith), lt-leb (b + 1) x (omega arith))
    go false e = let l = leb-false x b e in simp (e, le-leb (b + 1) x (omega arith), le-leb a x (omega arith))
merged (q ∷ qs) a b c rs x h = rw (merged qs a b c rs x h)

-- the order of two ranges does not matter
pub swapped : (p q r : Range) (rs : List Range) (x : ℕ) → in_ranges (p ∷ q ∷ r ∷ rs) x ≡ in_ranges (p ∷ r ∷ q ∷ rs) x
unfolding in_ranges
swapped p q r rs x =
    let m = in_ranges rs x in
    rw (← or_assoc (within q x) (within r x) m, or_comm (within q x) (within r x), or_assoc (within r x) (within q x) m)
