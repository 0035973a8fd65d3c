-- The match in a body: that of an anchored row is the one at the start; else it is looked for from one place to the next.
use Rattle.std.specs.Prelude.{Option, Some, None}
use Rattle.laws.proofs.Prelude.{◌≡◌, refl, sym, ap, ◌∙◌, ⊎_elim, List, [], ◌∷◌, ◌++◌, append-nil, flat_map, ℕ, zero, suc, ◌+◌, ◌≤◌, ◌<◌, add-one}
use Rattle.laws.proofs.Prelude.{arith, length, drop, drop_of_length-le, drop-cons}
use lib.Dec.{eqb-suc-zero}
use native.Mathlib.Nat.{eq-or-lt_of_le}
use Rattle.analysis.specs.declared.Capture.{Capture}
use Rattle.analysis.specs.Row.{Row, start, either, all, no_capture, first, match_at, places, find}

-- the first of two answers that is one
abbrev pub or_else : Option Capture → Option Capture → Option Capture
or_else (Some k) f = Some k
or_else None f = f

pub first_append : (x y : List Capture) → first (x ++ y) ≡ or_else (first x) (first y)
unfolding first
first_append [] y = refl
first_append (k ∷ x) y = refl

pub either_first : (a b : Row) (s : List ℕ) (at : ℕ) → first (all (either a b) s at no_capture) ≡ or_else (match_at a s at) (match_at b s at)
unfolding all match_at
either_first a b s at = first_append (all a s at no_capture) (all b s at no_capture)

-- past the start an anchored row matches nowhere
nowhere : (r : Row) (s t : List ℕ) (at : ℕ) → flat_map (λ e. all (start r) s e no_capture) (places t (suc at)) ≡ []
unfolding flat_map places all
nowhere r s [] at = rw (eqb-suc-zero at)
nowhere r s (x ∷ t) at = rw (eqb-suc-zero at) (nowhere r s t (suc at))

pub anchored : (r : Row) (s : List ℕ) → find (start r) s ≡ match_at r s 0
unfolding find match_at flat_map places all
anchored r [] = ap first (append-nil (all r [] 0 no_capture))
anchored r (x ∷ s) = ap first (rw (nowhere r (x ∷ s) s 0) (append-nil (all r (x ∷ s) 0 no_capture)))

-- the match from the leftmost of the places that has one, the first of them being `at`
unfoldable left_from : Row → List ℕ → ℕ → Option Capture
left_from r s at = first (flat_map (λ e. all r s e no_capture) (places (drop at s) at))

-- what is found at the first of the places up to n where something is, or nothing where each place was asked in vain
abbrev pub AtFirst : (ℕ → Option Capture → Type 0) → ℕ → Option Capture → Type 0
AtFirst Says n (Some k) = (at : ℕ) × (at ≤ n) × Says at (Some k) × ((p : ℕ) → p < at → Says p None)
AtFirst Says n None = (at : ℕ) → at ≤ n → Says at None

module _ (r : Row) (s : List ℕ) where
  starts : find r s ≡ left_from r s 0
  unfolding left_from find
  starts = refl

  step : (at : ℕ) → at < length s → left_from r s at ≡ or_else (match_at r s at) (left_from r s (at + 1))
  unfolding left_from match_at flat_map places
  step at h = rw (drop-cons s at 0 h, add-one at) (first_append (all r s at no_capture) _)

  ends : (at : ℕ) → length s ≤ at → left_from r s at ≡ match_at r s at
  unfolding left_from match_at flat_map places
  ends at h = rw (drop_of_length-le s h) (ap first (append-nil (all r s at no_capture)))

  missed : (at : ℕ) → at ≤ length s → ((p : ℕ) → p < at → None ≡ match_at r s p) → find r s ≡ left_from r s at
  missed zero h none = starts
  missed (suc at) h none =
      let next : at + 1 ≡ suc at = omega arith in
      missed at (omega arith) (λ p l. none p (omega arith)) ∙ step at h ∙ rw (← (none at (omega arith)), next)

  hit : (at : ℕ) {k : Capture} → at ≤ length s → Some k ≡ match_at r s at → left_from r s at ≡ Some k
  hit at h e = ⊎_elim (λ p. ends at (omega arith) ∙ sym e) (λ l. step at l ∙ rw (← e)) (eq-or-lt_of_le h)

  -- where each place is asked for the match from there on, the leftmost match is found
  pub leftmost : {Says : ℕ → Option Capture → Type 0} → ((at : ℕ) (k : Option Capture) → at ≤ length s → Says at k → k ≡ match_at r s at)
      → (found : Option Capture) → AtFirst Says (length s) found → found ≡ find r s
  leftmost each (Some k) (at, h, says, none) = sym (missed at h (λ p l. each p None (omega arith) (none p l)) ∙ hit at h (each at (Some k) h says))
  leftmost each None none =
      let never : (at : ℕ) → at ≤ length s → None ≡ match_at r s at = λ at h. each at None h (none at h) in
      never (length s) (omega arith) ∙ sym (missed (length s) (omega arith) (λ p l. never p (omega arith)) ∙ ends (length s) (omega arith))
