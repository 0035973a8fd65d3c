-- The places where a run can end, from one character to the next. The last of them is where the longest run ends, and it is the only one that
-- counts where what follows the run matches nowhere before it.
use Rattle.laws.proofs.Prelude.{◌≡◌, refl, sym, ap, ◌∙◌, List, [], ◌∷◌, ◌++◌, append-nil, flat_map, ℕ, zero, suc, ◌+◌, ◌≤◌, add-zero, not-suc-le-zero}
use Rattle.laws.proofs.Prelude.{le_of_suc-le-suc, arith, length, drop, length-drop, drop-drop}
use mathlib.Core.List.{reverse, reverse-cons}
use Rattle.laws.proofs.Lists.{flat_map_append}
use Rattle.text.specs.{declared.class.Class.Class, Class.class_at, Class.run_end}
use Rattle.text.proofs.Runs.{class_fits, run_stops, run_goes_on}
use Rattle.analysis.specs.{declared.Capture.Capture, Row.ends, Row.run_ends}

-- the bytes skipped are in the run
skipped : (c : Class) (n : ℕ) (t : List ℕ) (at : ℕ) → n ≤ length t → ends c n t at ≡ ends c 0 (drop n t) (at + n)
unfolding ends
skipped c zero t at h = rw (add-zero at)
skipped c (suc n) [] at h = absurd (not-suc-le-zero h)
skipped c (suc n) (x ∷ t) at h =
    let e : suc at + n ≡ at + suc n = omega arith in
    skipped c n t (suc at) (le_of_suc-le-suc h) ∙ ap (ends c 0 (drop n t)) e

stops : (c : Class) (t : List ℕ) (at : ℕ) → class_at c t ≡ 0 → ends c 0 t at ≡ at ∷ []
unfolding ends
stops c [] at e = refl
stops c (x ∷ t) at e = rw e

goes_on : (c : Class) (t : List ℕ) (at : ℕ) {n : ℕ} → n ≡ class_at c t → (n ≡ 0 → ⊥) → ends c 0 t at ≡ at ∷ ends c 0 (drop n t) (at + n)
unfolding ends
goes_on c t at {n = zero} e z = absurd (z refl)
goes_on c [] at {n = suc n} e z = absurd (omega (arith, class_fits c []))
goes_on c (x ∷ t) at {n = suc n} e z =
    let h : suc n ≤ length (x ∷ t) = omega (arith, class_fits c (x ∷ t)) in
    rw (← e) (ap (λ (l : List ℕ). at ∷ l) (skipped c (suc n) (x ∷ t) at h))

module _ (c : Class) (s : List ℕ) where
  -- where no character of the class stands, the run ends
  pub ends_stop : (at : ℕ) → class_at c (drop at s) ≡ 0 → run_ends c s at ≡ at ∷ []
  ends_stop at e = stops c (drop at s) at e

  -- it can end before a character of the class, and wherever the run behind it can
  pub ends_go_on : (at : ℕ) {n : ℕ} → n ≡ class_at c (drop at s) → (n ≡ 0 → ⊥) → run_ends c s at ≡ at ∷ run_ends c s (at + n)
  ends_go_on at {n} e z = rw (← (drop-drop n at s)) (goes_on c (drop at s) at e z)

  -- a run can end at once
  pub ends_begin : (at : ℕ) → (more : List ℕ) × (run_ends c s at ≡ at ∷ more)
  ends_begin at = go (class_at c (drop at s)) refl
    where
      go : (n : ℕ) → n ≡ class_at c (drop at s) → (more : List ℕ) × (run_ends c s at ≡ at ∷ more)
      go zero e = ([], ends_stop at (sym e))
      go (suc n) e = (run_ends c s (at + suc n), ends_go_on at e (λ z. omega arith))

  -- what holds where no character of the class stands, and before one if it holds behind it, holds everywhere
  pub by_characters : (P : ℕ → Type 0) → ((at : ℕ) → class_at c (drop at s) ≡ 0 → P at)
      → ((at : ℕ) → (class_at c (drop at s) ≡ 0 → ⊥) → P (at + class_at c (drop at s)) → P at) → (at : ℕ) → P at
  by_characters P stop go at = within (length s) at (omega arith)
    where
      within : (left at : ℕ) → length s ≤ at + left → P at
      within zero at h = stop at (omega (arith, class_fits c (drop at s), length-drop at s))
      within (suc left) at h = step (class_at c (drop at s)) refl (λ n z. within left (at + n) (omega arith))
        where
          step : (n : ℕ) → class_at c (drop at s) ≡ n → ((n : ℕ) → (n ≡ 0 → ⊥) → P (at + n)) → P at
          step zero e f = stop at e
          step (suc n) e f = let z : class_at c (drop at s) ≡ 0 → ⊥ = λ y. omega arith in go at z (f (class_at c (drop at s)) z)

  pub end_behind : (at : ℕ) → (class_at c (drop at s) ≡ 0 → ⊥) → run_end c s (at + class_at c (drop at s)) ≡ run_end c s at
  end_behind at z = let e = rw drop-drop at (run_goes_on c (drop at s) refl z) in omega arith

  -- the longest run's end is the last
  pub longest_last : (at : ℕ) → (shorter : List ℕ) × (reverse (run_ends c s at) ≡ run_end c s at ∷ shorter)
  longest_last =
      by_characters (λ at. (shorter : List ℕ) × (reverse (run_ends c s at) ≡ run_end c s at ∷ shorter))
      (λ at e. ([], rw (ends_stop at e, run_stops c (drop at s) e, add-zero at)))
      (λ at z i. (i.0 ++ (at ∷ []), rw (ends_go_on at refl z, reverse-cons, i.1, end_behind at z)))

  -- where what follows matches nowhere before a character of the class, only the longest run counts
  pub only_longest : (f : ℕ → List Capture) → ((e : ℕ) → (class_at c (drop e s) ≡ 0 → ⊥) → f e ≡ []) → (at : ℕ)
      → flat_map f (reverse (run_ends c s at)) ≡ f (run_end c s at)
  unfolding flat_map
  only_longest f h =
      by_characters (λ at. flat_map f (reverse (run_ends c s at)) ≡ f (run_end c s at))
      (λ at e. rw (ends_stop at e, run_stops c (drop at s) e, add-zero at) (append-nil (f at)))
      (λ at z i.
      let next = reverse (run_ends c s (at + class_at c (drop at s))) in
      rw (ends_go_on at refl z, reverse-cons, flat_map_append f next (at ∷ []), i, h at z, end_behind at z) (append-nil (f (run_end c s at))))
