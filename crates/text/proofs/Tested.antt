-- Bytes that pass a test: counted, and one after the other.
use Rattle.laws.proofs.Prelude.{◌≡◌, refl, sym, ap, ◌∙◌, Bool, true, false, cond, List, [], ◌∷◌, ℕ, zero, suc, ◌+◌, ◌≤◌, ◌<◌, arith, length, get_or, take, drop}
use Rattle.laws.proofs.Prelude.{length-take, get_or-drop, le_of_suc-le-suc, not-suc-le-zero}
use lib.Seq.{get_or-take}
use Rattle.std.specs.Prelude.{count_by}
use Rattle.std.proofs.lemmas.List.Sums.{sum_by-cons, count_by-le-length}

-- where all are counted, each passes
pub all_counted : (p : ℕ → Bool) (s : List ℕ) → count_by p s ≡ length s → (k : ℕ) → k < length s → p (get_or s k 0) ≡ true
all_counted p [] e = λ k l. absurd (not-suc-le-zero l)
all_counted p (x ∷ s) e = go (p x) refl (all_counted p s)
  where
    first : {b : Bool} → p x ≡ b → suc (length s) ≡ cond b 1 0 + count_by p s
    first h = sym e ∙ sum_by-cons (λ y. cond (p y) 1 0) x s ∙ ap (λ (b : Bool). cond b 1 0 + count_by p s) h

    go : (b : Bool) → p x ≡ b → (count_by p s ≡ length s → (k : ℕ) → k < length s → p (get_or s k 0) ≡ true)
        → (k : ℕ) → k < suc (length s) → p (get_or (x ∷ s) k 0) ≡ true
    go false h f k l = absurd (omega (arith, first h, count_by-le-length p s))
    go true h f zero l = h
    go true h f (suc k) l = f (omega (arith, first h)) k (le_of_suc-le-suc l)

-- of a block that a text begins with
pub block_counted : (p : ℕ → Bool) (s : List ℕ) (n : ℕ) → n ≤ length s → count_by p (take n s) ≡ n → (k : ℕ) → k < n → p (get_or s k 0) ≡ true
block_counted p s n l e k h =
    let w : length (take n s) ≡ n = omega (arith, length-take n s) in
    rw (get_or-take n s k 0 h) at (all_counted p (take n s) (e ∙ sym w) k (rw w h))

-- those of what is left are those from the place on
pub from_place : (p : ℕ → Bool) (s : List ℕ) (at n : ℕ) → ((k : ℕ) → k < n → p (get_or (drop at s) k 0) ≡ true)
    → (k : ℕ) → k < n → p (get_or s (at + k) 0) ≡ true
from_place p s at n f k h = rw get_or-drop at (f k h)
