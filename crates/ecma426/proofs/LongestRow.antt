-- The longest row of a kind, from one character to the next; no other row ends where no such character stands.
use Rattle.laws.proofs.Prelude.{◌≡◌, refl, sym, ap, ◌∙◌, Bool, List, ℕ, zero, suc, ◌+◌, ◌≤◌, ℕ_discrete, arith}
use Rattle.laws.proofs.Prelude.{length, drop, length-drop, drop-drop}
use Rattle.text.specs.Characters.{Stands}
use Rattle.text.proofs.{Characters.stands_sound, Characters.stands_complete, Runs.if_fits, Runs.if_stops, Runs.if_goes_on}
use Rattle.ecma426.specs.Grammar.{OneOf, Row, none, more}
use Rattle.ecma426.specs.Reader.{one_at, row_end}

module _ (kind : ℕ → Bool) where
  module _ (s : List ℕ) where
    -- where no character of the kind stands, the row is empty
    pub row_stops : (at : ℕ) → one_at kind (drop at s) ≡ 0 → row_end kind s at ≡ at
    unfolding row_end
    row_stops at e = omega (arith, if_stops kind (drop at s) e)

    -- a character of the kind, and then the row behind it
    pub row_goes_on : (at : ℕ) {n : ℕ} → n ≡ one_at kind (drop at s) → (n ≡ 0 → ⊥) → row_end kind s at ≡ row_end kind s (at + n)
    unfolding row_end
    row_goes_on at {n} e z = omega (arith, rw drop-drop at (if_goes_on kind (drop at s) e z))

    -- a character stands where the reader finds one
    stands : (at : ℕ) → (one_at kind (drop at s) ≡ 0 → ⊥) → Stands (OneOf kind) s at (at + one_at kind (drop at s))
    stands = stands_sound kind (λ p. (λ h. h, λ h. h)) s

    pub stood : {at next : ℕ} → Stands (OneOf kind) s at next → (one_at kind (drop at s) ≡ 0 → ⊥) × (next ≡ at + one_at kind (drop at s))
    stood {at} = stands_complete kind (λ p. (λ h. h, λ h. h)) s at

    row_by : (n at : ℕ) → length s ≤ at + n → Row s kind at (row_end kind s at)
    row_by zero at h = rw (row_stops at (omega (arith, if_fits kind (drop at s), length-drop at s))) none
    row_by (suc n) at h = go (row_by n) (ℕ_discrete (one_at kind (drop at s)) 0)
      where
        go : ((next : ℕ) → length s ≤ next + n → Row s kind next (row_end kind s next)) → Dec (one_at kind (drop at s) ≡ 0) → Row s kind at (row_end kind s at)
        go rest (yes z) = rw (row_stops at z) none
        go rest (no z) = rw (row_goes_on at refl z) (more (stands at z) (rest (at + one_at kind (drop at s)) (omega arith)))

    pub row_is : (at : ℕ) → Row s kind at (row_end kind s at)
    row_is at = row_by (length s) at (omega arith)

    -- a row behind which no character of the kind stands is the longest
    pub row_only : {at end : ℕ} → Row s kind at end → one_at kind (drop end s) ≡ 0 → end ≡ row_end kind s at
    row_only none z = sym (row_stops _ z)
    row_only (more {at} x r) z =
        let (n, e) = stood x in
        row_only r z ∙ ap (row_end kind s) e ∙ sym (row_goes_on at refl n)
