-- A table filled row by row with items, each judged by the one before.
use Rattle.laws.proofs.Prelude.{◌≡◌, refl, ◌∙◌, List, [], ◌++◌, append_assoc, append-nil, map, ℕ, suc, ◌+◌, ◌-◌, ◌≤◌, ◌<◌, sub-zero, add-one, arith, length}
use Rattle.laws.proofs.Prelude.{take, take_all, set, length-set}
use lib.Seq.{take-suc-set}
use Rattle.std.proofs.lemmas.List.{map-append}
use Rattle.laws.specs.Decoded.{Decoded, ok, no, on_ok, Decoder}
use Rattle.laws.proofs.Decoding.{map_map}
use Rattle.sheet.specs.Comments.{chained}

-- no change
on_ok_none : {A : Type 0} (x : Decoded (List A)) → x ≡ on_ok (λ xs. [] ++ xs) x
on_ok_none (ok a t) = refl
on_ok_none (no r) = refl

-- n items from t₀ on, the first judged in the state s₀, are those in the first k rows, then those that are read on from t, in the state s
pub record Filling {A S R : Type 0} (item : S → Decoder A) (leaves : A → S) (read : R → A) (s₀ : S) (n : ℕ) (t₀ : List ℕ) (table : List R) (s : S) (k : ℕ)
    (t : List ℕ) : Type 0 where
  pub long : length table ≡ n
  pub rest : chained item leaves s₀ n t₀ ≡ on_ok (λ xs. map read (take k table) ++ xs) (chained item leaves s (n - k) t)

pub fill_none : {A S R : Type 0} (item : S → Decoder A) (leaves : A → S) (read : R → A) (s : S) (t : List ℕ) (table : List R)
    → Filling item leaves read s (length table) t table s 0 t
fill_none item leaves read s t table = record { long = refl; rest = rw sub-zero (on_ok_none (chained item leaves s (length table) t)) }

module _ {A S R : Type 0} {item : S → Decoder A} {leaves : A → S} {read : R → A} {s₀ : S} {n : ℕ} {t₀ : List ℕ} {table : List R} {s : S} {k : ℕ}
    {t : List ℕ} (f : Filling item leaves read s₀ n t₀ table s k t) where
  pub fill_stop : {r : ℕ} → k < n → item s t ≡ no r → chained item leaves s₀ n t₀ ≡ no r
  unfolding chained
  fill_stop l e =
      let left : n - k ≡ suc (n - (k + 1)) = omega arith in
      f.rest ∙ rw (left, e)

  pub fill_more : k < n → {a : A} {u : List ℕ} → item s t ≡ ok a u → (row : R) → read row ≡ a
      → Filling item leaves read s₀ n t₀ (set table k row) (leaves a) (k + 1) u
  unfolding chained
  fill_more l {a} {u} e row g =
      let left : n - k ≡ suc (n - (k + 1)) = omega arith in
      let inside : k < length table = omega (arith, f.long) in
      record {
        long = rw length-set f.long;
        rest = f.rest ∙ rw (left, e, map_map, add-one, take-suc-set table k row inside, map-append, g) (simp append_assoc);
      }

  pub fill_all : n ≤ k → chained item leaves s₀ n t₀ ≡ ok (map read table) t
  unfolding chained
  fill_all h =
      let none : n - k ≡ 0 = omega arith in
      f.rest ∙ rw (none, append-nil, take_all k table (omega (arith, f.long)))

-- the start, a refusal on the way, and the end
pub ruleset filled = (fill_none, fill_stop, fill_all)
