-- The longest run of characters that pass a test, from one character to the next; and that of a class.
use Rattle.laws.proofs.Prelude.{◌≡◌, refl, Bool, true, List, [], ◌∷◌, ℕ, zero, suc, ◌+◌, ◌<◌, ◌≤◌, not-suc-le-zero, le_of_suc-le-suc, arith}
use Rattle.laws.proofs.Prelude.{length, get_or, drop, drop-cons, drop-drop}
use Rattle.text.specs.{declared.class.Class.Class, declared.utf8.Encoding.TheVariants.Utf8, Utf8.char_at}
use Rattle.text.specs.Class.{member, length_if, run_if, class_at, run, run_length}
use Rattle.text.proofs.{Formed.fits_if, Ascii.ascii_if}

module _ (test : ℕ → Bool) where
  -- a character that passes has no more bytes than the text
  pub if_fits : (s : List ℕ) → length_if test s ≤ length s
  unfolding char_at
  if_fits s = fits_if Utf8 (test (char_at Utf8 s).code) s

  -- the bytes skipped are in the run
  skipped : (n : ℕ) (s : List ℕ) → n ≤ length s → run_if test n s ≡ n + run_if test 0 (drop n s)
  skipped zero s h = omega arith
  skipped (suc n) [] h = absurd (not-suc-le-zero h)
  skipped (suc n) (x ∷ s) h = omega (arith, skipped n s (le_of_suc-le-suc h))

  -- where no such character stands, the run is empty
  pub if_stops : (s : List ℕ) → length_if test s ≡ 0 → run_if test 0 s ≡ 0
  if_stops [] e = refl
  if_stops (x ∷ s) e = rw e

  -- such a character, and then the run behind it
  pub if_goes_on : (s : List ℕ) {n : ℕ} → n ≡ length_if test s → (n ≡ 0 → ⊥) → run_if test 0 s ≡ n + run_if test 0 (drop n s)
  if_goes_on s {n = zero} e z = absurd (z refl)
  if_goes_on [] {n = suc n} e z = absurd (omega (arith, if_fits []))
  if_goes_on (x ∷ s) {n = suc n} e z = rw (← e) (omega (arith, skipped n s (omega (arith, if_fits (x ∷ s)))))

  -- a byte of ASCII that passes, and then the run behind it
  pub ascii_goes_on : (s : List ℕ) (i : ℕ) → i < length s → get_or s i 0 < 128 → true ≡ test (get_or s i 0)
      → run_if test 0 (drop i s) ≡ 1 + run_if test 0 (drop (i + 1) s)
  ascii_goes_on s i l h e =
      let one : 1 ≡ length_if test (drop i s) = rw (drop-cons s i 0 l) (ascii_if test (get_or s i 0 ∷ drop (suc i) s) (omega arith) h e) in
      rw drop-drop at (if_goes_on (drop i s) one (λ z. omega arith))

module _ (c : Class) where
  pub class_fits : (s : List ℕ) → class_at c s ≤ length s
  unfolding class_at
  class_fits = if_fits (member c)

  pub run_stops : (s : List ℕ) → class_at c s ≡ 0 → run_length c s ≡ 0
  unfolding class_at run
  run_stops = if_stops (member c)

  pub run_goes_on : (s : List ℕ) {n : ℕ} → n ≡ class_at c s → (n ≡ 0 → ⊥) → run_length c s ≡ n + run_length c (drop n s)
  unfolding class_at run
  run_goes_on = if_goes_on (member c)
