-- A text that is one character after the other, from one character to the next; and what every row of the table says of a length.
use Rattle.laws.proofs.Prelude.{◌≡◌, refl, ap, sym, ◌∙◌, Bool, true, false, cond, ◌&&◌, and-eq-true_iff, List, [], ◌∷◌, ℕ, zero, suc, ◌+◌, ◌≤◌, ◌<◌}
use Rattle.laws.proofs.Prelude.{zero-le, suc-le-suc, length, drop, drop_of_length-le, drop-cons, drop-drop}
use native.Mathlib.Nat.{add-suc, suc-add}
use Rattle.std.proofs.lemmas.Bool.{cond_both}
use Rattle.text.specs.{declared.utf8.Encoding.Encoding, Ranges.Range, Ranges.within}
use Rattle.text.specs.Utf8.{admits, Row, char, never, length_by, rows, char_length, formed}

-- the bytes skipped are dropped
pub skipped : (e : Encoding) (n : ℕ) (s : List ℕ) → formed e n s ≡ formed e 0 (drop n s)
unfolding formed
skipped e zero s = refl
skipped e (suc n) [] = refl
skipped e (suc n) (x ∷ s) = skipped e n s

-- at the end nothing is left to be formed
pub ended : (e : Encoding) (s : List ℕ) (at : ℕ) → length s ≤ at → formed e 0 (drop at s) ≡ true
unfolding formed
ended e s at h = rw (drop_of_length-le s h)

module _ (e : Encoding) (s : List ℕ) (at : ℕ) (l : at < length s) where
  -- where no character stands, the text is ill-formed
  pub stuck : {n : ℕ} → n ≡ char_length e (drop at s) → n ≡ 0 → formed e 0 (drop at s) ≡ false
  unfolding formed
  stuck p z = rw (drop-cons s at 0 l) (rw (← (rw (z, drop-cons s at 0 l) at p)))

  -- a character is passed
  pub passed : (n : ℕ) → n ≡ char_length e (drop at s) → (n ≡ 0 → ⊥) → formed e 0 (drop at s) ≡ formed e 0 (drop (at + n) s)
  unfolding formed
  passed zero p z = absurd (z refl)
  passed (suc n) p z =
      rw (drop-cons s at 0 l)
      (rw (← (rw (drop-cons s at 0 l) at p))
      (skipped e n (drop (suc at) s) ∙ ap (formed e 0) (drop-drop n (suc at) s ∙ ap (λ (m : ℕ). drop m s) (suc-add at n ∙ sym (add-suc at n)))))

-- a row's ranges are no more than the bytes that they admit
pub admitted : (rs : List Range) (s : List ℕ) → admits rs s ≡ true → length rs ≤ length s
unfolding admits
admitted [] s t = zero-le
admitted (r ∷ rs) [] t = absurd (let z : ◌≡◌ {A = Bool} false true = t in mathlib.Core.Bool.false≢true z)
admitted (r ∷ rs) (x ∷ s) t = suc-le-suc (admitted rs s ((and-eq-true_iff (within r x) (admits rs s)).0 t).1)

-- a test of the ranges of each row that is a character
abbrev pub every_row : (List Range → Bool) → List Row → Bool
every_row f [] = true
every_row f (char first last rs ∷ more) = f rs && every_row f more
every_row f (never rs ∷ more) = every_row f more

-- a row that admits the text has no more ranges than the text has bytes, so a character is all in the text
rows_fit : (table : List Row) (s : List ℕ) → length_by table s ≤ length s
unfolding length_by
rows_fit [] s = zero-le
rows_fit (char first last rs ∷ more) s = cond_both (admits rs s) _ _ (λ n. n ≤ length s) (admitted rs s) (λ h. rows_fit more s)
rows_fit (never rs ∷ more) s = cond_both (admits rs s) _ _ (λ n. n ≤ length s) (λ h. zero-le) (λ h. rows_fit more s)

pub fits : (e : Encoding) (s : List ℕ) → char_length e s ≤ length s
unfolding char_length
fits e s = rows_fit (rows e) s

-- so does one that is taken only where a test holds
pub fits_if : (e : Encoding) (b : Bool) (s : List ℕ) → cond b (char_length e s) 0 ≤ length s
fits_if e true s = fits e s
fits_if e false s = zero-le
