-- What holds place by place: of every place passed so far, or of the place itself.
use mathlib.Core.{Path.◌≡◌, Logic.⊎_elim}
use Prim.Native.Nat.{ℕ, zero, suc, ◌+◌, ◌-◌, ◌≤◌, ◌<◌}
use native.Mathlib.{Omega.arith, Nat.add-zero, Nat.eq-or-lt_of_le}

-- what holds of each place from `at` up to `i`, and of `i`, holds of each up to `i + 1`
pub on_by_one : (P : ℕ → Type 0) (at i : ℕ) → ((k : ℕ) → at ≤ k → k < i → P k) → P i → (k : ℕ) → at ≤ k → k < i + 1 → P k
on_by_one P at i f p k l h = ⊎_elim (λ (e : k ≡ i). rw e p) (λ b. f k l b) (eq-or-lt_of_le (let q : k ≤ i = omega arith in q))

-- and so of each up to `i + n`, where it holds of the n from `i` on
pub on_by_block : (P : ℕ → Type 0) (at i n : ℕ) → ((k : ℕ) → at ≤ k → k < i → P k) → ((k : ℕ) → k < n → P (i + k))
    → (k : ℕ) → at ≤ k → k < i + n → P k
on_by_block P at i zero f g k l h = f k l (omega arith)
on_by_block P at i (suc n) f g k l h = on_by_one P at (i + n) (on_by_block P at i n f (λ m b. g m (omega arith))) (g n (omega arith)) k l (omega arith)

-- what holds at a place, and goes on from each place to the next, holds further on
pub carried : (P : ℕ → Type 0) (i n : ℕ) → P i → ((k : ℕ) → i ≤ k → k < i + n → P k → P (k + 1)) → P (i + n)
carried P i zero p f = rw add-zero p
carried P i (suc n) p f =
    let e : i + suc n ≡ i + n + 1 = omega arith in
    rw e (f (i + n) (omega arith) (omega arith) (carried P i n p (λ k g h. f k g (omega arith))))

pub carried_to : (P : ℕ → Type 0) (i r : ℕ) → i ≤ r → P i → ((k : ℕ) → i ≤ k → k < r → P k → P (k + 1)) → P r
carried_to P i r l p f =
    let e : i + (r - i) ≡ r = omega arith in
    rw e at (carried P i (r - i) p (λ k g h. f k g (omega arith)))
