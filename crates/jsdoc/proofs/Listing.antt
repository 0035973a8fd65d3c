-- The ticks that the parsers give at each place of a body are those of the readings that are listed.
use Rattle.laws.proofs.Prelude.{◌≡◌, refl, ◌⊎◌, ⊎_elim, inl, inr, List, Option, ℕ, zero, suc, ◌-◌, ◌≤◌, ◌<◌, arith, ℕ_discrete, length, drop}
use Rattle.laws.proofs.Prelude.{length-drop, replicate, ◌+◌}
use Rattle.std.specs.Prelude.{None, Option, Some}
use Rattle.analysis.specs.Mode.{Mode, mode_number}
use Rattle.jsdoc.specs.Grammar.{Bytes, Brace, Declaration, Reading, From, Listed}
use Rattle.jsdoc.specs.{Parsed.Parser, Parsed.value, Reader.Hit, Reader.hit, code.Ticks.Ticks}
use Rattle.jsdoc.specs.Listing.{tick_at, listing_by, listing}
use Rattle.jsdoc.proofs.{ReadingPlace.with_kind, Ticked.ticks_iff}
use Rattle.jsdoc.specs.code.Marks.{Marking, hit_marked, all_marked, readings_marked}
use Rattle.jsdoc.proofs.Ticking.{Kind, Before, later, braces, declarations, ticks_none, ticks_turn, from_below}
use Rattle.jsdoc.proofs.Marking.{hit_fits, kept_by_all}

module _ (b : Bytes) where
  on : (n q : ℕ) (m : Mode) → (Before Reading b n q m ⊎ From Brace b n q m) ⊎ From Declaration b n q m → Before Reading b (suc n) q m
  on n q m (inl (inl (k, h, f))) = (k, omega arith, f)
  on n q m (inl (inr f)) = (n, omega arith, with_kind f (inl f.reads))
  on n q m (inr f) = (n, omega arith, with_kind f (inr f.reads))

  back : (n q : ℕ) (m : Mode) → Before Reading b (suc n) q m → (Before Reading b n q m ⊎ From Brace b n q m) ⊎ From Declaration b n q m
  back n q m (k, h, f) = go (ℕ_discrete k n)
    where
      kind : {j : ℕ} (f : From Reading b j q m) → Reading (drop j b) (drop q b) (drop f.end b) m → From Brace b j q m ⊎ From Declaration b j q m
      kind f (inl r) = inl (with_kind f r)
      kind f (inr r) = inr (with_kind f r)

      go : Dec (k ≡ n) → (Before Reading b n q m ⊎ From Brace b n q m) ⊎ From Declaration b n q m
      go (yes e) = let g = rw e at f in ⊎_elim (λ r. inl (inr r)) inr (kind g g.reads)
      go (no e) = inl (inl (k, omega arith, f))

  listing_by_lem : (n : ℕ) → n ≤ length b → Ticks (Before Reading b n) (length b) (listing_by n b)
  listing_by_lem zero h = ticks_none b
  listing_by_lem (suc n) h =
      ticks_iff (on n) (back n)
      (ticks_turn declarations b n h
      (ticks_turn braces b n h (listing_by_lem n (omega arith)) (λ q m f. (f.0, f.2)) _ refl)
      (λ q m f. let g = on n q m (inl f) in (g.0, g.2)) _ refl)

  pub listing_ticks : Ticks (Listed b) (length b) (listing b)
  unfolding listing
  listing_ticks = ticks_iff (λ q m f. (f.0, f.2)) (λ q m f. (f.0, from_below f.1, f.1)) (listing_by_lem (length b) (omega arith))

-- ---- the ticks of the code, which marks the readings of one kind and then those of the other

abbrev pub tick : Marking ℕ
tick x i m = mode_number m + 1

module _ {R : Bytes → Bytes → Bytes → Mode → Type 0} {p : Parser Hit} (K : Kind R p) (b : Bytes) where
  -- where the body is left from place i on
  hit_ticked : (i : ℕ) → i < length b → (o : Option Hit) → value (p (drop i b)) ≡ o → (l : List ℕ)
      → tick_at i (drop i b) o l ≡ hit_marked tick 0 (length b) (drop i b) o l
  hit_ticked i h None is l = refl
  hit_ticked i h (Some (hit q e m)) is l =
      let at : i + (length (drop i b) - length q) ≡ length b - length q = omega (arith, hit_fits K (drop i b) is, length-drop i b) in
      rw at

  module _ {P : ℕ → Mode → Type 0} (listed : (q : ℕ) (m : Mode) → P q m → Listed b q m) where
    all_ticked : {l : List ℕ} → Ticks P (length b) l → Ticks (λ q m. P q m ⊎ Before R b (length b) q m) (length b) (all_marked tick 0 p (length b) b l)
    all_ticked {l} t =
        kept_by_all tick 0 p b (λ i l. Ticks (λ q m. P q m ⊎ Before R b i q m) (length b) l)
        (λ i l h t. ticks_iff (more i) (less i) (rw (← hit_ticked i h _ refl l) (ticks_turn K b i h t (so_far i) _ refl)))
        l (ticks_iff (λ q m x. inl x) (λ q m x. ⊎_elim (λ y. y) (λ y. absurd (omega (arith, y.1))) x) t)
      where
        so_far : (i q : ℕ) (m : Mode) → P q m ⊎ Before R b i q m → Listed b q m
        so_far i q m (inl x) = listed q m x
        so_far i q m (inr (j, g, f)) = (j, with_kind f (K.reading f.reads))

        more : (i q : ℕ) (m : Mode) → (P q m ⊎ Before R b i q m) ⊎ From R b i q m → P q m ⊎ Before R b (i + 1) q m
        more i q m (inl (inl x)) = inl x
        more i q m (inl (inr x)) = inr (later (omega arith) q m (inl x))
        more i q m (inr f) = inr (later (omega arith) q m (inr f))

        less : (i q : ℕ) (m : Mode) → P q m ⊎ Before R b (i + 1) q m → (P q m ⊎ Before R b i q m) ⊎ From R b i q m
        less i q m (inl x) = inl (inl x)
        less i q m (inr (j, g, f)) = go (ℕ_discrete j i)
          where
            go : Dec (j ≡ i) → (P q m ⊎ Before R b i q m) ⊎ From R b i q m
            go (yes e) = inr (rw e at f)
            go (no e) = inl (inr (j, omega arith, f))

pub readings_ticked : (b : Bytes) → Ticks (Listed b) (length b) (readings_marked tick 0 b (replicate (length b) 0))
readings_ticked b =
    ticks_iff listed (λ q m f. back q m f.1 f.1.reads)
    (all_ticked declarations b some (all_ticked braces b none (ticks_none b)))
  where
    none : (q : ℕ) (m : Mode) → Before Brace b 0 q m → Listed b q m
    none q m (j, h, f) = absurd (omega arith)

    some : (q : ℕ) (m : Mode) → Before Brace b 0 q m ⊎ Before Brace b (length b) q m → Listed b q m
    some q m (inl x) = none q m x
    some q m (inr (j, h, f)) = (j, with_kind f (inl f.reads))

    listed : (q : ℕ) (m : Mode) → (Before Brace b 0 q m ⊎ Before Brace b (length b) q m) ⊎ Before Declaration b (length b) q m → Listed b q m
    listed q m (inl x) = some q m x
    listed q m (inr (j, h, f)) = (j, with_kind f (inr f.reads))

    back : (q : ℕ) (m : Mode) {j : ℕ} (f : From Reading b j q m) → Reading (drop j b) (drop q b) (drop f.end b) m
        → (Before Brace b 0 q m ⊎ Before Brace b (length b) q m) ⊎ Before Declaration b (length b) q m
    back q m {j} f (inl r) = inl (inr (j, from_below f, with_kind f r))
    back q m {j} f (inr r) = inr (j, from_below f, with_kind f r)
