-- Which numbers lie in a range of one number, and in ranges put together.
use Rattle.laws.proofs.Prelude.{◌≡◌, refl, sym, ap, ◌∙◌, Bool, true, false, ◌||◌, List, [], ◌∷◌, ◌++◌, ℕ, arith, leb, eqb, leb-true, leb-false, eq-eqb, ne_eqb}
use mathlib.Core.Bool.{or_assoc, or-false}
use Rattle.text.specs.Ranges.{Range, ◌to◌, within, in_ranges}

pub one_point : (a x : ℕ) → in_ranges ((a to a) ∷ []) x ≡ eqb x a
unfolding in_ranges
one_point a x = go (leb a x) refl (leb x a) refl
  where
    go : (p : Bool) → leb a x ≡ p → (q : Bool) → leb x a ≡ q → within (a to a) x || false ≡ eqb x a
    go false e q f = rw (e, ne_eqb x a (λ h. omega (arith, leb-false a x e)))
    go true e false f = rw (e, f, ne_eqb x a (λ h. omega (arith, leb-false x a f)))
    go true e true f = rw (e, f, eq-eqb x a (omega (arith, leb-true a x e, leb-true x a f)))

pub together : (ps qs : List Range) (x : ℕ) → in_ranges (ps ++ qs) x ≡ in_ranges ps x || in_ranges qs x
unfolding in_ranges
together [] qs x = refl
together (p ∷ ps) qs x = ap (λ (b : Bool). within p x || b) (together ps qs x) ∙ sym (or_assoc (within p x) _ _)

pub one_within : (a x : ℕ) → within (a to a) x ≡ eqb x a
unfolding in_ranges
one_within a x = sym (or-false _) ∙ one_point a x
