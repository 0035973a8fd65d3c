-- What ranges one after the other admit.
use Rattle.laws.proofs.Prelude.{◌≡◌, refl, sym, false, ◌&&◌, List, [], ◌∷◌, ◌++◌, ℕ, ◌≤◌, ◌<◌, leb, length, drop, le_of_suc-le-suc, not-suc-le-zero}
use mathlib.Core.Bool.{and-false, and_assoc}
use Rattle.text.specs.{Ranges.Range, Ranges.within, Utf8.admits, code.Rows.ranges_of, code.Rows.all_within}

pub admits_append : (ps qs : List Range) (s : List ℕ) → admits (ps ++ qs) s ≡ admits ps s && admits qs (drop (length ps) s)
unfolding admits
admits_append [] qs s = refl
admits_append (r ∷ ps) qs [] = refl
admits_append (r ∷ ps) qs (x ∷ s) = rw (admits_append ps qs s) (sym (and_assoc (within r x) _ _))

-- a text as long as the row is admitted where each byte lies in its range, and a shorter one never is
pub admits_each : (row : List (ℕ × ℕ)) (s : List ℕ) → length row ≤ length s
    → all_within row s ≡ admits (ranges_of row) s
unfolding admits
admits_each [] s l = refl
admits_each (r ∷ row) [] l = absurd (not-suc-le-zero l)
admits_each (r ∷ row) (x ∷ s) l = rw (admits_each row s (le_of_suc-le-suc l))

pub admits_short : (row : List (ℕ × ℕ)) (s : List ℕ) → length s < length row → false ≡ admits (ranges_of row) s
unfolding admits
admits_short [] s l = absurd (not-suc-le-zero l)
admits_short (r ∷ row) [] l = refl
admits_short (r ∷ row) (x ∷ s) l = rw (← admits_short row s (le_of_suc-le-suc l), and-false (leb r.0 x && leb x r.1))
