-- A table of ticks, and one tick more.
use Rattle.laws.proofs.Prelude.{◌≡◌, refl, sym, ◌∙◌, ◌⊎◌, inl, inr, List, ℕ, zero, suc, ◌+◌, ◌<◌, arith, ℕ_discrete, set, get_or, replicate, length-set}
use Rattle.laws.proofs.Prelude.{length-replicate, get_or-set_same, get_or-set_other}
use lib.Seq.{ext_get_or}
use Rattle.analysis.specs.Mode.{Mode, mode_number}
use Rattle.jsdoc.specs.code.Ticks.{Ticks}

-- the same facts in other words
pub ticks_iff : {P R : ℕ → Mode → Type 0} {n : ℕ} {l : List ℕ} → ((q : ℕ) (m : Mode) → P q m → R q m) → ((q : ℕ) (m : Mode) → R q m → P q m) → Ticks P n l →
    Ticks R n l
ticks_iff f g k = record { same = k.same; sound = λ q j e. let (m, i, p) = k.sound q j e in (m, i, f q m p); complete = λ q m r. k.complete q m (g q m r) }

-- the facts settle the table
ticks_same : {P : ℕ → Mode → Type 0} {n : ℕ} {l k : List ℕ} → Ticks P n l → Ticks P n k → (q j : ℕ) → get_or l q 0 ≡ suc j → get_or k q 0 ≡ suc j
ticks_same a b q j e = let (m, i, p) = a.sound q j (omega arith) in omega (arith, i, b.complete q m p)

pub ticks_unique : {P : ℕ → Mode → Type 0} {n : ℕ} {l k : List ℕ} → Ticks P n l → Ticks P n k → l ≡ k
ticks_unique {l} {k} a b = ext_get_or 0 l k (a.same ∙ sym b.same) (λ q h. go q (get_or l q 0) refl)
  where
    none : (q y : ℕ) → get_or l q 0 ≡ 0 → get_or k q 0 ≡ y → 0 ≡ y
    none q zero e f = refl
    none q (suc j) e f = sym e ∙ ticks_same b a q j f

    go : (q x : ℕ) → get_or l q 0 ≡ x → x ≡ get_or k q 0
    go q zero e = none q (get_or k q 0) e refl
    go q (suc j) e = sym (ticks_same a b q j e)

-- one tick more, at a place that has no other
module _ {P R : ℕ → Mode → Type 0} {n : ℕ} {l : List ℕ} (q : ℕ) (m : Mode) (h : q < n) (k : Ticks P n l) where
  pub ticks_set : ((a : ℕ) (b : Mode) → P a b → R a b) → R q m → ((a : ℕ) (b : Mode) → R a b → P a b ⊎ ((a ≡ q) × (b ≡ m))) → ((b : Mode) → P q b → b ≡ m)
      → Ticks R n (set l q (mode_number m + 1))
  ticks_set old new only one = record {
    same = length-set l q (mode_number m + 1) ∙ k.same;
    sound = λ a j e. sound a j e (ℕ_discrete a q);
    complete = λ a b r. complete a b (only a b r) (ℕ_discrete a q);
  }
    where
      here : get_or (set l q (mode_number m + 1)) q 0 ≡ mode_number m + 1
      here = get_or-set_same l q (mode_number m + 1) 0 (omega (arith, k.same))

      sound : (a j : ℕ) → get_or (set l q (mode_number m + 1)) a 0 ≡ j + 1 → Dec (a ≡ q) → (b : Mode) × (mode_number b ≡ j) × R a b
      sound a j e (yes p) =
          let i : get_or (set l q (mode_number m + 1)) a 0 ≡ mode_number m + 1 = rw p here in
          (m, omega arith, rw p new)
      sound a j e (no p) = let (b, i, r) = k.sound a j (sym (get_or-set_other l q a (mode_number m + 1) 0 p) ∙ e) in (b, i, old a b r)

      complete : (a : ℕ) (b : Mode) → P a b ⊎ ((a ≡ q) × (b ≡ m)) → Dec (a ≡ q) → get_or (set l q (mode_number m + 1)) a 0 ≡ mode_number b + 1
      complete a b (inl r) (yes p) =
          let w : b ≡ m = one b (rw p at r) in
          rw (p, w) here
      complete a b (inl r) (no p) = get_or-set_other l q a (mode_number m + 1) 0 p ∙ k.complete a b r
      complete a b (inr r) (yes p) = rw (r.0, r.1) here
      complete a b (inr r) (no p) = absurd (p r.0)

-- a table of zeros ticks nothing
pub zeros : (n q : ℕ) → get_or {A = ℕ} (replicate n 0) q 0 ≡ 0
zeros zero q = refl
zeros (suc n) zero = refl
zeros (suc n) (suc q) = zeros n q

pub ticks_nothing : {P : ℕ → Mode → Type 0} → ((q : ℕ) (m : Mode) → P q m → ⊥) → (n : ℕ) → Ticks P n (replicate n 0)
ticks_nothing f n = record { same = length-replicate n 0; sound = λ q j e. absurd (omega (arith, zeros n q)); complete = λ q m r. absurd (f q m r) }
