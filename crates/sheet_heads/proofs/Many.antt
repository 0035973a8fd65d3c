-- Items read one after the other: what a loop over them keeps, with what was found so far, and what was read if all of them were.
use Rattle.laws.proofs.Prelude.{◌≡◌, refl, sym, ap, ◌∙◌, List, ℕ, zero, suc, ◌-◌, ◌≤◌, ◌<◌, arith}
use Rattle.laws.specs.Decoded.{Decoded, ok, no, on_ok, Decoder}
use Rattle.laws.proofs.Decoding.{refused, then_ok, on_ok_ok}
use Rattle.sheet.specs.Nodes.{many}

-- `after w l` is what is found in all, where w was found before the items of l
module _ {L W R : Type 0} (after : W → L → R) (end : L) (item : Decoder (L → L)) where
  abbrev pub found : W → ℕ → List ℕ → Decoded R
  found w k s = on_ok (after w) (many end item k s)

  pub found_step : (w w' : W) (k : ℕ) (s : List ℕ) {add : L → L} {t : List ℕ} → 0 < k → item s ≡ ok add t → ((l : L) → after w (add l) ≡ after w' l)
      → found w k s ≡ found w' (k - 1) t
  unfolding many
  found_step w w' zero s h e f = absurd (omega arith)
  found_step w w' (suc k) s {add} {t} h e f = let down : suc k - 1 ≡ k = omega arith in rw (down, e) (each (many end item k t))
    where
      each : (x : Decoded L) → on_ok (after w) (on_ok add x) ≡ on_ok (after w') x
      each (ok l u) = ap (λ v. ok v u) (f l)
      each (no r) = refl

  pub found_stop : (w : W) (k : ℕ) (s : List ℕ) {r : ℕ} → 0 < k → item s ≡ no r → found w k s ≡ no r
  unfolding many
  found_stop w zero s h e = absurd (omega arith)
  found_stop w (suc k) s h e = rw e

  pub found_end : (w : W) (k : ℕ) (s : List ℕ) → k ≤ 0 → found w k s ≡ ok (after w end) s
  unfolding many
  found_end w zero s h = refl
  found_end w (suc k) s h = absurd (omega arith)

-- so many items, if they were read: the first and the others, or none
module _ {L : Type 0} (end : L) (item : Decoder (L → L)) {l : L} {u : List ℕ} where
  pub many_first : (k : ℕ) (s : List ℕ) → 0 < k → many end item k s ≡ ok l u
      → (add : L → L) × (t : List ℕ) × (item s ≡ ok add t) × (m : L) × (many end item (k - 1) t ≡ ok m u) × (add m ≡ l)
  unfolding many
  many_first zero s h f = absurd (omega arith)
  many_first (suc k) s h f =
      let down : suc k - 1 ≡ k = omega arith in
      let (add, t, first, behind) = then_ok (item s) _ f in
      let (m, others, is) = on_ok_ok add (many end item k t) behind in
      (add, t, first, m, rw down others, is)

  pub many_next : (k : ℕ) (s : List ℕ) {add : L → L} {t : List ℕ} → 0 < k → item s ≡ ok add t → many end item k s ≡ ok l u
      → (m : L) × (many end item (k - 1) t ≡ ok m u) × (add m ≡ l)
  unfolding many
  many_next zero s h e f = absurd (omega arith)
  many_next (suc k) s {add} {t} h e f = let down : suc k - 1 ≡ k = omega arith in rw down (on_ok_ok add (many end item k t) (rw e at f))

  pub many_refused : (k : ℕ) (s : List ℕ) {r : ℕ} → 0 < k → item s ≡ no r → many end item k s ≡ ok l u → ⊥
  many_refused k s h e f = refused (sym e ∙ (many_first k s h f).2)

  pub many_end : (k : ℕ) (s : List ℕ) → k ≤ 0 → many end item k s ≡ ok l u → l ≡ end
  unfolding many
  many_end zero s h e = cc
  many_end (suc k) s h e = absurd (omega arith)
