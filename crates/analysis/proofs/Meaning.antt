-- Each match of a row is among those in order of preference. So where the finder answers nothing, nothing matches.
use Rattle.std.specs.Prelude.{None}
use Rattle.laws.proofs.Prelude.{◌≡◌, refl, sym, List, [], ◌∷◌, flat_map, Memᴰ, Memᴰ_head, Memᴰ_tail, Memᴰ_not_nil, Memᴰ_cases_cons}
use Rattle.laws.proofs.Prelude.{◌⊎◌, inl, inr, ⊎_elim, ℕ, suc, ◌+◌, ◌≤◌, zero-le, arith, length, eq-eqb, ne_eqb}
use mathlib.Core.List.Memᴰ
use mathlib.Core.List.{reverse, reverse_aux, reverse-reverse}
use native.Mathlib.Nat.{eq-or-lt_of_le}
use Rattle.text.{specs.declared.class.Class.Class, proofs.Characters.one_stands, proofs.Characters.one_there}
use Rattle.analysis.specs.declared.Capture.{Capture}
use Rattle.analysis.specs.Row.{Row, run_ends, all, no_capture, first, places, find}
use Rattle.analysis.specs.Matches.{Run, Matches, RowReading}
use Rattle.analysis.proofs.Ends.{ends_begin, ends_stop, ends_go_on, by_characters}
use Rattle.analysis.proofs.Spelling.{spelled_word}

-- what one of the places stands for is among what they all do
in_flat : (f : ℕ → List Capture) {x : Capture} {e : ℕ} {l : List ℕ} → Memᴰ e l → Memᴰ x (f e) → Memᴰ x (flat_map f l)
unfolding flat_map
in_flat f (Memᴰ_head {xs = l} p) m = Memᴰ.append_left (flat_map f l) (rw p at m)
in_flat f (Memᴰ_tail {x = d} p) m = Memᴰ.append_right (f d) (in_flat f p m)

-- a list turned round has the same members
turned : (l r : List ℕ) {e : ℕ} → Memᴰ e (reverse_aux l r) → Memᴰ e l ⊎ Memᴰ e r
turned [] r m = inr m
turned (x ∷ l) r m =
    ⊎_elim (λ i. inl (Memᴰ_tail i)) (λ i. ⊎_elim (λ p. inl (Memᴰ_head p)) inr (Memᴰ_cases_cons i)) (turned l (x ∷ r) m)

pub of_reverse : (l : List ℕ) {e : ℕ} → Memᴰ e (reverse l) → Memᴰ e l
of_reverse l m = ⊎_elim (λ i. i) (λ i. absurd (Memᴰ_not_nil i)) (turned l [] m)

pub in_reverse : (l : List ℕ) {e : ℕ} → Memᴰ e l → Memᴰ e (reverse l)
in_reverse l m = of_reverse (reverse l) (rw reverse-reverse m)

module _ (s : List ℕ) where
  -- a run can end where a run ends
  pub of_ends : (c : Class) (at e : ℕ) → Memᴰ e (run_ends c s at) → Run s c at e
  of_ends c =
      by_characters c s (λ at. (e : ℕ) → Memᴰ e (run_ends c s at) → Run s c at e)
      (λ at z e m. rw (Memᴰ.eq_of_singleton (rw (ends_stop c s at z) at m)) Run.none)
      (λ at z f e m. ⊎_elim (λ p. rw p Run.none) (λ i. Run.more (one_stands c s at z) (f e i))
      (Memᴰ_cases_cons (rw (ends_go_on c s at refl z) at m)))

  pub in_ends : (c : Class) {at e : ℕ} → Run s c at e → Memᴰ e (run_ends c s at)
  in_ends c (Run.none {at}) = rw (ends_begin c s at).1 (Memᴰ_head refl)
  in_ends c (Run.more {at} x r) =
      let (z, p) = one_there c s at x in
      rw (ends_go_on c s at refl z) (Memᴰ_tail (rw p at (in_ends c r)))

  pub listed : {r : Row} {at end : ℕ} {k l : Capture} → Matches s r at end k l → Memᴰ l (all r s at k)
  unfolding all
  listed Matches.done = Memᴰ_head refl
  listed (Matches.start e i) = rw (eq-eqb _ 0 e) (listed i)
  listed (Matches.word x i) = rw (spelled_word x) (listed i)
  listed (Matches.one {c = c} {at = at} x i) = let (z, p) = one_there c s at x in rw (ne_eqb _ _ z, ← p) (listed i)
  listed (Matches.longest {c = c} {r = r} {at = at} {k = k} run i) =
      in_flat (λ e. all r s e k) (in_reverse (run_ends c s at) (in_ends c run)) (listed i)
  listed (Matches.shortest {c = c} {r = r} {at = at} {k = k} run i) = in_flat (λ e. all r s e k) (in_ends c run) (listed i)
  listed (Matches.from i) = listed i
  listed (Matches.to i) = listed i
  listed (Matches.left {b = b} {at = at} {k = k} i) = Memᴰ.append_left (all b s at k) (listed i)
  listed (Matches.right {a = a} {at = at} {k = k} i) = Memᴰ.append_right (all a s at k) (listed i)

-- the places of a text are those up to its end
pub of_places : (t : List ℕ) (at e : ℕ) → Memᴰ e (places t at) → (at ≤ e) × (e ≤ at + length t)
unfolding places
of_places [] at e m = let p = Memᴰ.eq_of_singleton m in (omega arith, omega arith)
of_places (x ∷ t) at e m =
    ⊎_elim (λ p. (omega arith, omega arith)) (λ i. let (l, h) = of_places t (suc at) e i in (omega arith, omega arith)) (Memᴰ_cases_cons m)

pub in_places : (t : List ℕ) (at e : ℕ) → at ≤ e → e ≤ at + length t → Memᴰ e (places t at)
unfolding places
in_places [] at e l h = Memᴰ_head (let p : e ≡ at = omega arith in p)
in_places (x ∷ t) at e l h =
    ⊎_elim (λ p. Memᴰ_head (sym p)) (λ p. Memᴰ_tail (in_places t (suc at) e p (omega arith))) (eq-or-lt_of_le l)

-- a list that has something has a first
some_first : {x : List Capture} {k : Capture} → Memᴰ k x → first x ≡ None → ⊥
unfolding first
some_first (Memᴰ_head p) e = let z : ◌≡◌ {A = ℕ} 0 1 = cc in absurd (omega arith)
some_first (Memᴰ_tail m) e = let z : ◌≡◌ {A = ℕ} 0 1 = cc in absurd (omega arith)

pub reading_found : (r : Row) (s : List ℕ) {k : Capture} → RowReading r s k → find r s ≡ None → ⊥
unfolding find
reading_found r s (at, h, end, i) e = some_first (in_flat (λ at. all r s at no_capture) (in_places s 0 at zero-le (omega arith)) (listed s i)) e
