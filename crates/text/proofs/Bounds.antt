-- The bounds of ranges: what one of them says of the others where they ascend, and what the number of those at most x says of x.
use Rattle.laws.proofs.Prelude.{◌≡◌, refl, ◌∙◌, ap, Bool, true, ◌&&◌, ◌||◌, and-eq-true_iff, ◌⊎◌, inl, inr, List, [], ◌∷◌, ℕ, zero, suc, ◌+◌, ◌%◌, ◌≤◌, ◌<◌}
use Rattle.laws.proofs.Prelude.{zero-le, suc-le-suc, le_of_suc-le-suc, not-suc-le-zero, arith, ltb, eqb, length, get_or, take, drop, ltb-true, le-leb, lt-leb}
use native.Mathlib.Nat.{eq-or-lt_of_le}
use Rattle.std.specs.List.Sorted.{IsNonDecreasingBy}
use Rattle.std.proofs.lemmas.List.Sorted.{IsNonDecreasingBy-from_default}
use Rattle.text.specs.Ranges.{Range, ◌to◌, within, in_ranges, bounds, Ascending, Split}

-- bounds that ascend do not fall
pub not_falling : {a : List ℕ} → Ascending a → IsNonDecreasingBy (λ x. x) a
not_falling {a} asc = IsNonDecreasingBy-from_default (λ x. x) a 0 λ i j le l. go i j l (eq-or-lt_of_le le)
  where
    go : (i j : ℕ) → j < length a → (i ≡ j) ⊎ (i < j) → get_or a i 0 ≤ get_or a j 0
    go i j l (inl e) = rw e (omega arith)
    go i j l (inr h) = omega (arith, asc.rise i j h l)

-- a test for Ascending: each number is above the one before it, the first above b
abbrev pub rises : ℕ → List ℕ → Bool
rises b [] = true
rises b (c ∷ a) = ltb b c && rises c a

module _ (b c : ℕ) (a : List ℕ) (t : rises b (c ∷ a) ≡ true) where
  first : b < c
  first = ltb-true b c ((and-eq-true_iff (ltb b c) (rises c a)).0 t).0

  others : rises c a ≡ true
  others = ((and-eq-true_iff (ltb b c) (rises c a)).0 t).1

all_above : (b : ℕ) (a : List ℕ) → rises b a ≡ true → (k : ℕ) → k < length a → b < get_or a k 0
all_above b [] t k l = absurd (not-suc-le-zero l)
all_above b (c ∷ a) t zero l = first b c a t
all_above b (c ∷ a) t (suc k) l = let h = first b c a t in omega (arith, all_above c a (others b c a t) k (le_of_suc-le-suc l))

pairs : (b : ℕ) (a : List ℕ) → rises b a ≡ true → (i j : ℕ) → i < j → j < length a → get_or a i 0 < get_or a j 0
pairs b [] t i j h l = absurd (not-suc-le-zero l)
pairs b (c ∷ a) t i zero h l = absurd (not-suc-le-zero h)
pairs b (c ∷ a) t zero (suc j) h l = all_above c a (others b c a t) j (le_of_suc-le-suc l)
pairs b (c ∷ a) t (suc i) (suc j) h l = pairs c a (others b c a t) i j (le_of_suc-le-suc h) (le_of_suc-le-suc l)

pub ascending : (a : List ℕ) → rises 0 a ≡ true → Ascending a
ascending a t = record { rise = pairs 0 a t }

-- where all bounds are above x, none is at most x
none : {a : List ℕ} {x : ℕ} → ((k : ℕ) → k < length a → x < get_or a k 0) → Split a x 0
none above = record { within = zero-le; below = λ k l. absurd (not-suc-le-zero l); above = λ k h. above k }

-- the split without the first two bounds, both at most x
rest : {b c x n : ℕ} {a : List ℕ} → Split (b ∷ c ∷ a) x (suc (suc n)) → Split a x n
rest s =
    record {
      within = le_of_suc-le-suc (le_of_suc-le-suc s.within);
      below = λ k l. s.below (suc (suc k)) (suc-le-suc (suc-le-suc l));
      above = λ k h l. s.above (suc (suc k)) (suc-le-suc (suc-le-suc h)) (suc-le-suc (suc-le-suc l));
    }

-- the bounds at most x are odd in number just where x lies in a range
pub odd : (rs : List Range) {x n : ℕ} → Split (bounds rs) x n → eqb (n % 2) 1 ≡ in_ranges rs x
unfolding in_ranges
odd [] {x} {n = zero} s = refl
odd [] {x} {n = suc n} s = absurd (not-suc-le-zero s.within)
odd ((lo to hi) ∷ rs) {x} {n = zero} s =
    simp (lt-leb lo x (s.above 0 zero-le (suc-le-suc zero-le)))
    (odd rs (none (λ k l. s.above (suc (suc k)) zero-le (suc-le-suc (suc-le-suc l)))))
odd ((lo to hi) ∷ rs) {x} {n = suc zero} s =
    let h : x < hi + 1 = s.above 1 (suc-le-suc zero-le) (suc-le-suc (suc-le-suc zero-le)) in
    simp (le-leb lo x (s.below 0 (suc-le-suc zero-le)), le-leb x hi (omega arith))
odd ((lo to hi) ∷ rs) {x} {n = suc (suc n)} s =
    let h : hi + 1 ≤ x = s.below 1 (suc-le-suc (suc-le-suc zero-le)) in
    simp (le-leb lo x (s.below 0 (suc-le-suc zero-le)), lt-leb x hi (omega arith))
    (ap (λ (m : ℕ). eqb m 1) (let t : suc (suc n) % 2 ≡ n % 2 = omega arith in t) ∙ odd rs (rest s))

-- where the ranges but the first k are above x, x lies in one of all just where it lies in one of the k
pub among_first : (k : ℕ) (rs : List Range) (top : ℕ) → rises top (bounds (drop k rs)) ≡ true
    → (x : ℕ) → x ≤ top → in_ranges (take k rs) x ≡ in_ranges rs x
unfolding in_ranges
among_first zero rs top t x h = odd rs (none (λ k l. omega (arith, all_above top (bounds rs) t k l)))
among_first (suc k) [] top t x h = refl
among_first (suc k) (r ∷ rs) top t x h = ap (λ (b : Bool). within r x || b) (among_first k rs top t x h)
