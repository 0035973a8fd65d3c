-- A table of origins, and one note more.
use Rattle.laws.proofs.Prelude.{◌≡◌, refl, sym, ◌∙◌, ◌⊎◌, inl, inr, List, ℕ, zero, suc, ◌+◌, ◌≤◌, ◌<◌, arith, ℕ_discrete, set, get_or, replicate, length-set}
use Rattle.laws.proofs.Prelude.{length-replicate, get_or-set_same, get_or-set_other, eq-eqb, ne_eqb}
use lib.Seq.{ext_get_or}
use Rattle.jsdoc.specs.{Origins.note_at, code.Origins.Origins}
use Rattle.jsdoc.proofs.Ticked.{zeros}

-- more places that read, and none of them first
pub origins_more : {P R : ℕ → ℕ → Type 0} {n : ℕ} {l : List ℕ} → ((k q : ℕ) → P k q → R k q) → ((k q : ℕ) → R k q → (j : ℕ) × (j ≤ k) × P j q)
    → Origins P n l → Origins R n l
origins_more f g o = record {
  same = o.same;
  sound = λ q k e. f k q (o.sound q k e);
  least = λ q k j e r. let (i, h, p) = g j q r in omega (arith, o.least q k i e p);
  complete = λ q k r. let (j, h, p) = g k q r in o.complete q j p;
}

-- the facts settle the table
pub origins_unique : {P : ℕ → ℕ → Type 0} {n : ℕ} {l m : List ℕ} → Origins P n l → Origins P n m → l ≡ m
origins_unique {l} {m} a b = ext_get_or 0 l m (a.same ∙ sym b.same) (λ q h. go q (get_or l q 0) (get_or m q 0) refl refl)
  where
    go : (q x y : ℕ) → get_or l q 0 ≡ x → get_or m q 0 ≡ y → x ≡ y
    go q zero zero e f = refl
    go q zero (suc j) e f = absurd (a.complete q j (b.sound q j (omega arith)) e)
    go q (suc i) zero e f = absurd (b.complete q i (a.sound q i (omega arith)) f)
    go q (suc i) (suc j) e f =
        let first = a.sound q i (omega arith) in
        let second = b.sound q j (omega arith) in
        omega (arith, a.least q i j (omega arith) second, b.least q j i (omega arith) first)

-- one note more, of a place that comes behind all that read the quote
module _ {P : ℕ → ℕ → Type 0} {n : ℕ} {l : List ℕ} (i q : ℕ) (h : q < n) (o : Origins P n l) (behind : (k : ℕ) → P k q → k ≤ i) where
  abbrev More : ℕ → ℕ → Type 0
  More k p = P k p ⊎ ((k ≡ i) × (p ≡ q))

  -- where none stood
  first_note : get_or l q 0 ≡ 0 → Origins More n (set l q (i + 1))
  first_note z = record {
    same = length-set l q (i + 1) ∙ o.same;
    sound = λ p k e. sound p k e (ℕ_discrete p q);
    least = λ p k j e r. least p k j e r (ℕ_discrete p q);
    complete = λ p k r e. complete p k r e (ℕ_discrete p q);
  }
    where
      here : get_or (set l q (i + 1)) q 0 ≡ i + 1
      here = get_or-set_same l q (i + 1) 0 (omega (arith, o.same))

      at : (p : ℕ) → p ≡ q → get_or (set l q (i + 1)) p 0 ≡ i + 1
      at p x = rw x here

      else : (p : ℕ) → (p ≡ q → ⊥) → get_or l p 0 ≡ get_or (set l q (i + 1)) p 0
      else p x = sym (get_or-set_other l q p (i + 1) 0 x)

      sound : (p k : ℕ) → get_or (set l q (i + 1)) p 0 ≡ k + 1 → Dec (p ≡ q) → More k p
      sound p k e (yes x) = inr (omega (arith, at p x), x)
      sound p k e (no x) = inl (o.sound p k (else p x ∙ e))

      least : (p k j : ℕ) → get_or (set l q (i + 1)) p 0 ≡ k + 1 → More j p → Dec (p ≡ q) → k ≤ j
      least p k j e (inl r) (yes x) = absurd (o.complete q j (rw x at r) z)
      least p k j e (inl r) (no x) = o.least p k j (else p x ∙ e) r
      least p k j e (inr r) (yes x) = omega (arith, at p x, r.0)
      least p k j e (inr r) (no x) = absurd (x r.1)

      complete : (p k : ℕ) → More k p → get_or (set l q (i + 1)) p 0 ≡ 0 → Dec (p ≡ q) → ⊥
      complete p k r e (yes x) = omega (arith, at p x)
      complete p k (inl r) e (no x) = o.complete p k r (else p x ∙ e)
      complete p k (inr r) e (no x) = x r.1

  -- where one stood it is kept
  kept_note : (get_or l q 0 ≡ 0 → ⊥) → Origins More n l
  kept_note z = record { same = o.same; sound = λ p k e. inl (o.sound p k e); least = least; complete = complete }
    where
      least : (p k j : ℕ) → get_or l p 0 ≡ k + 1 → More j p → k ≤ j
      least p k j e (inl r) = o.least p k j e r
      least p k j e (inr r) = omega (arith, behind k (rw r.1 at (o.sound p k e)), r.0)

      complete : (p k : ℕ) → More k p → get_or l p 0 ≡ 0 → ⊥
      complete p k (inl r) e = o.complete p k r e
      complete p k (inr r) e = z (rw r.1 at e)

  pub origins_note : Origins More n (note_at i q l)
  origins_note = go (ℕ_discrete (get_or l q 0) 0)
    where
      go : Dec (get_or l q 0 ≡ 0) → Origins More n (note_at i q l)
      go (yes z) = rw (eq-eqb (get_or l q 0) 0 z) (first_note z)
      go (no z) = rw (ne_eqb (get_or l q 0) 0 z) (kept_note z)

-- a table of zeros notes nothing
pub origins_nothing : {P : ℕ → ℕ → Type 0} → ((k q : ℕ) → P k q → ⊥) → (n : ℕ) → Origins P n (replicate n 0)
origins_nothing f n = record {
  same = length-replicate n 0;
  sound = λ q k e. absurd (omega (arith, zeros n q));
  least = λ q k j e r. absurd (f j q r);
  complete = λ q k r e. f k q r;
}
