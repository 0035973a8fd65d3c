-- The order of groups, by side and then by position.
use Rattle.laws.proofs.Prelude.{◌≡◌, refl, ap, ◌∙◌, Bool, true, false, ◌&&◌, ◌||◌, or-true, false≢true, ◌⊎◌, inl, inr, ℕ, ◌<◌, arith, ltb}
use Rattle.laws.proofs.Prelude.{eqb, ltb-true, eqb-true, lt-ltb, eq-eqb}
use Rattle.wire.proofs.Numbered.{one_number}
use Rattle.sheet.specs.{declared.names.Side.Side, Names.side_number, Comments.precedes}
use Rattle.sheet.proofs.EnumNumbers.{side_numbers}

-- a side and a position come before another side and position
abbrev pub Earlier : Side → ℕ → Side → ℕ → Type 0
Earlier s p s' p' = (side_number s < side_number s') ⊎ ((s ≡ s') × (p < p'))

module _ (s : Side) (p : ℕ) (s' : Side) (p' : ℕ) where
  pub by_order : precedes s p s' p' ≡ true → Earlier s p s' p'
  by_order e = go (ltb (side_number s) (side_number s')) refl (eqb (side_number s) (side_number s')) refl e
    where
      go : (a : Bool) → ltb (side_number s) (side_number s') ≡ a → (b : Bool) → eqb (side_number s) (side_number s') ≡ b → (a || (b && ltb p p')) ≡ true →
          Earlier s p s' p'
      go true x b y e = inl (ltb-true (side_number s) (side_number s') x)
      go false x true y e = inr (one_number side_numbers (eqb-true (side_number s) (side_number s') y), ltb-true p p' e)
      go false x false y e = absurd (false≢true e)

  pub in_order : Earlier s p s' p' → precedes s p s' p' ≡ true
  in_order (inl l) = rw (lt-ltb (side_number s) (side_number s') l)
  in_order (inr e) = rw (eq-eqb (side_number s) (side_number s') (ap side_number e.0), lt-ltb p p' e.1, or-true (ltb (side_number s) (side_number s')))

pub earlier_trans : (s : Side) (p : ℕ) (s' : Side) (p' : ℕ) (s'' : Side) (p'' : ℕ) → Earlier s p s' p' → Earlier s' p' s'' p'' → Earlier s p s'' p''
earlier_trans s p s' p' s'' p'' (inl a) (inl b) = inl (omega arith)
earlier_trans s p s' p' s'' p'' (inl a) (inr b) = inl (omega (arith, ap side_number b.0))
earlier_trans s p s' p' s'' p'' (inr a) (inl b) = inl (omega (arith, ap side_number a.0))
earlier_trans s p s' p' s'' p'' (inr a) (inr b) = inr (a.0 ∙ b.0, omega arith)
