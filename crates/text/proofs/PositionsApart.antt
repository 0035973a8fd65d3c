-- Positions tell the places of a text apart.
use Rattle.laws.proofs.Prelude.{◌≡◌, refl, ap, sym, Bool, true, false, inl, inr, ⊎_elim, List, [], ◌∷◌, ℕ, suc, ◌-◌, ◌≤◌, ◌<◌, arith, ltb, length, get_or}
use Rattle.laws.proofs.Prelude.{take, drop, drop-cons, ltb-true, ltb-false}
use Rattle.text.specs.{declared.position.Position.Position, Ranges.within, Utf8.continuation}
use Rattle.text.specs.Position.{Units, step, walk, position_of, Before, Boundary}
use Rattle.text.proofs.Positions.{onward, by_step}

-- the further bytes bring no position back
before_step : (unit : Units) (p q : Position) (b : ℕ) → Before p q → Before p (step unit q b)
before_step unit p q b h =
    by_step unit q b (Before p) (inl (⊎_elim (λ l. omega arith) (λ e. omega arith) h)) (⊎_elim (λ l. inl l) (λ e. inr (e.0, omega arith)) h)

before_walk : (unit : Units) (p q : Position) (s : List ℕ) → Before p q → Before p (walk unit q s)
unfolding walk
before_walk unit p q [] h = h
before_walk unit p q (b ∷ s) h = before_walk unit p (step unit q b) s (before_step unit p q b h)

module _ {unit : Units} (some : (b : ℕ) → 0 < unit b) where
  -- the first byte of a character takes the position on
  before_first : (p : Position) (b : ℕ) → within continuation b ≡ false → Before p (step unit p b)
  before_first p b e = by_step unit p b (Before p) (inl (omega arith)) (inr (refl, rw e (omega (arith, some b))))

  -- a character that begins at p is passed at any later place
  pub grows : (s : List ℕ) (p q : ℕ) → p < q → q ≤ length s → within continuation (get_or s p 0) ≡ false → Before (position_of unit s p) (position_of unit s q)
  unfolding walk
  grows s p q l h e =
      let here = position_of unit s p in
      let b = get_or s p 0 in
      let k : p < length s = omega arith in
      let n : q - p ≡ suc (q - p - 1) = omega arith in
      let o : p ≤ q = omega arith in
      rw (← onward unit s p q o, n, drop-cons s p 0 k)
      (before_walk unit here (step unit here b) (take (q - p - 1) (drop (suc p) s)) (before_first here b e))

  -- two places at character boundaries have one position only where they are the same
  pub one_place : (s : List ℕ) (p q : ℕ) → Boundary s p → Boundary s q → position_of unit s p ≡ position_of unit s q → p ≡ q
  one_place s p q b d e = go (ltb p q) refl (ltb q p) refl
    where
      apart : (x y : ℕ) → x < y → Boundary s x → Boundary s y → position_of unit s x ≡ position_of unit s y → ⊥
      apart x y l k m same =
          ⊎_elim
          (λ h. omega (arith, ap (λ (r : Position). r.line) same))
          (λ h. omega (arith, ap (λ (r : Position). r.column) same))
          (grows s x y l m.0 k.1)

      go : (x : Bool) → ltb p q ≡ x → (y : Bool) → ltb q p ≡ y → p ≡ q
      go true l y m = absurd (apart p q (ltb-true p q l) b d e)
      go false l true m = absurd (apart q p (ltb-true q p m) d b (sym e))
      go false l false m = omega (arith, ltb-false p q l, ltb-false q p m)
