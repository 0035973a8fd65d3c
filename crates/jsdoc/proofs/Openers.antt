-- The origins that the parsers give at each place of a body are the first places that read.
use Rattle.std.specs.Prelude.{Option, Some, None}
use Rattle.std.proofs.lemmas.List.{set-get_or}
use Rattle.laws.proofs.Prelude.{◌≡◌, refl, sym, ne_eqb, Bool, true, false, cond, eqb, set, get_or, replicate, ◌+◌, ◌-◌, ◌⊎◌, ⊎_elim, inl, inr, List, ℕ, zero}
use Rattle.laws.proofs.Prelude.{suc, ◌≤◌, ◌<◌, arith, ℕ_discrete, length, drop, length-drop}
use Rattle.analysis.specs.Mode.{Mode}
use Rattle.jsdoc.specs.Grammar.{Bytes, Brace, Declaration, Reading, From}
use Rattle.jsdoc.specs.{Parsed.Parser, Parsed.value, Reader.Hit, Reader.hit, code.Origins.Origins, code.Origins.ReadsBy}
use Rattle.jsdoc.specs.Origins.{note_of, openers_by, openers}
use Rattle.jsdoc.proofs.{ReadingPlace.with_kind, Apart.never_both, Noted.origins_more, Noted.origins_unique}
use Rattle.jsdoc.specs.code.Marks.{Marking, Stays, hit_marked, all_marked, readings_marked}
use Rattle.jsdoc.proofs.Ticking.{Kind, braces, declarations, from_below}
use Rattle.jsdoc.proofs.Noting.{Early, early_none, origins_turn}
use Rattle.jsdoc.proofs.Marking.{hit_fits, kept_by_all}

module _ (b : Bytes) where
  -- the readings from before n and the Brace reading from n, and the Declaration from n
  abbrev Upto : ℕ → ℕ → ℕ → Type 0
  Upto n k q = (Early Reading b n k q ⊎ ((k ≡ n) × ReadsBy Brace b n q)) ⊎ ((k ≡ n) × ReadsBy Declaration b n q)

  on : (n k q : ℕ) → Upto n k q → Early Reading b (suc n) k q
  on n k q (inl (inl (h, x))) = (omega arith, x)
  on n k q (inl (inr (e, (m, f)))) = (omega arith, rw e (m, with_kind f (inl f.reads)))
  on n k q (inr (e, (m, f))) = (omega arith, rw e (m, with_kind f (inr f.reads)))

  back : (n k q : ℕ) → Early Reading b (suc n) k q → Upto n k q
  back n k q (h, (m, f)) = go (ℕ_discrete k n)
    where
      kind : {j : ℕ} (f : From Reading b j q m) → Reading (drop j b) (drop q b) (drop f.end b) m → ReadsBy Brace b j q ⊎ ReadsBy Declaration b j q
      kind f (inl r) = inl (m, with_kind f r)
      kind f (inr r) = inr (m, with_kind f r)

      go : Dec (k ≡ n) → Upto n k q
      go (yes e) = let g = rw e at f in ⊎_elim (λ r. inl (inr (e, r))) (λ r. inr (e, r)) (kind g g.reads)
      go (no e) = inl (inl (omega arith, (m, f)))

  openers_by_lem : (n : ℕ) → n ≤ length b → Origins (Early Reading b n) (length b) (openers_by n b)
  openers_by_lem zero h = early_none b
  openers_by_lem (suc n) h =
      origins_more (on n) (λ k q x. (k, omega arith, back n k q x))
      (origins_turn declarations b n h
      (origins_turn braces b n h (openers_by_lem n (omega arith)) (λ k q m f x. omega (arith, x.0)) _ refl)
      (λ k q m f x. omega (arith, (on n k q (inl x)).0)) _ refl)

  pub origins_first : Origins (ReadsBy Reading b) (length b) (openers b)
  unfolding openers
  origins_first = origins_more (λ k q x. x.1) (λ k q x. (k, omega arith, (from_below x.1, x))) (openers_by_lem (length b) (omega arith))

-- ---- the notes of the code, which marks the readings of one kind and then those of the other

abbrev pub note : Marking ℕ
note x i m = cond (eqb x 0) (i + 1) x

pub note_stays : Stays note
note_stays x i k m h = go (eqb x 0) refl
  where
    go : (z : Bool) → eqb x 0 ≡ z → note (cond z (i + 1) x) k m ≡ cond z (i + 1) x
    go true e = rw (ne_eqb (i + 1) 0 (λ z. omega (arith, z)))
    go false e = rw e

module _ {R : Bytes → Bytes → Bytes → Mode → Type 0} {p : Parser Hit} (K : Kind R p) (b : Bytes) where
  -- where the body is left from place i on
  hit_noted : (i : ℕ) → i < length b → (o : Option Hit) → value (p (drop i b)) ≡ o → (l : List ℕ)
      → note_of i (drop i b) o l ≡ hit_marked note 0 (length b) (drop i b) o l
  hit_noted i h None is l = refl
  hit_noted i h (Some (hit q e m)) is l =
      let at : i + (length (drop i b) - length q) ≡ length b - length q = omega (arith, hit_fits K (drop i b) is, length-drop i b) in
      let from : length b - length (drop i b) ≡ i = omega (arith, length-drop i b) in
      rw (at, from) (go (length b - length q) (eqb (get_or l (length b - length q) 0) 0))
    where
      go : (q : ℕ) (z : Bool) → cond z (set l q (i + 1)) l ≡ set l q (cond z (i + 1) (get_or l q 0))
      go q true = refl
      go q false = sym (set-get_or l q 0)

  module _ {P : ℕ → ℕ → Type 0} (apart : (j k q : ℕ) (m : Mode) → P j q → From R b k q m → ⊥) where
    all_noted : {l : List ℕ} → Origins P (length b) l → Origins (λ k q. P k q ⊎ Early R b (length b) k q) (length b) (all_marked note 0 p (length b) b l)
    all_noted {l} o =
        kept_by_all note 0 p b (λ i l. Origins (λ k q. P k q ⊎ Early R b i k q) (length b) l)
        (λ i l h o. origins_more (more i) (λ k q x. (k, omega arith, less i k q x)) (rw (← hit_noted i h _ refl l) (origins_turn K b i h o (behind i) _ refl)))
        l (origins_more (λ k q x. inl x) (λ k q x. (k, omega arith, ⊎_elim (λ y. y) (λ y. absurd (omega (arith, y.0))) x)) o)
      where
        behind : (i k q : ℕ) (m : Mode) → From R b i q m → P k q ⊎ Early R b i k q → k ≤ i
        behind i k q m f (inl x) = absurd (apart k i q m x f)
        behind i k q m f (inr x) = omega (arith, x.0)

        more : (i k q : ℕ) → (P k q ⊎ Early R b i k q) ⊎ ((k ≡ i) × ReadsBy R b i q) → P k q ⊎ Early R b (i + 1) k q
        more i k q (inl (inl x)) = inl x
        more i k q (inl (inr x)) = inr (omega (arith, x.0), x.1)
        more i k q (inr x) = inr (omega (arith, x.0), rw x.0 x.1)

        less : (i k q : ℕ) → P k q ⊎ Early R b (i + 1) k q → (P k q ⊎ Early R b i k q) ⊎ ((k ≡ i) × ReadsBy R b i q)
        less i k q (inl x) = inl (inl x)
        less i k q (inr (g, x)) = go (ℕ_discrete k i)
          where
            go : Dec (k ≡ i) → (P k q ⊎ Early R b i k q) ⊎ ((k ≡ i) × ReadsBy R b i q)
            go (yes e) = inr (e, rw e at x)
            go (no e) = inl (inr (omega arith, x))

readings_noted : (b : Bytes) → Origins (ReadsBy Reading b) (length b) (readings_marked note 0 b (replicate (length b) 0))
readings_noted b =
    origins_more on (λ k q x. (k, omega arith, back k q x.0 x.1 x.1.reads))
    (all_noted declarations b apart (all_noted braces b none (early_none b)))
  where
    none : (j k q : ℕ) (m : Mode) → Early Brace b 0 j q → From Brace b k q m → ⊥
    none j k q m x f = omega (arith, x.0)

    apart : (j k q : ℕ) (m : Mode) → Early Brace b 0 j q ⊎ Early Brace b (length b) j q → From Declaration b k q m → ⊥
    apart j k q m (inl x) f = omega (arith, x.0)
    apart j k q m (inr (h, (n, g))) f = never_both g f

    on : (k q : ℕ) → (Early Brace b 0 k q ⊎ Early Brace b (length b) k q) ⊎ Early Declaration b (length b) k q → ReadsBy Reading b k q
    on k q (inl (inl x)) = absurd (omega (arith, x.0))
    on k q (inl (inr (h, (m, f)))) = (m, with_kind f (inl f.reads))
    on k q (inr (h, (m, f))) = (m, with_kind f (inr f.reads))

    back : (k q : ℕ) (m : Mode) (f : From Reading b k q m) → Reading (drop k b) (drop q b) (drop f.end b) m
        → (Early Brace b 0 k q ⊎ Early Brace b (length b) k q) ⊎ Early Declaration b (length b) k q
    back k q m f (inl r) = inl (inr (from_below f, (m, with_kind f r)))
    back k q m f (inr r) = inr (from_below f, (m, with_kind f r))

-- what is noted is what the parsers give
pub noted_openers : (b : Bytes) → readings_marked note 0 b (replicate (length b) 0) ≡ openers b
noted_openers b = origins_unique (readings_noted b) (origins_first b)
