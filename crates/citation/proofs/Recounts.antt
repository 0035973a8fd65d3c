-- A position recounted is the position in UTF-16 code units of the same place.
use Rattle.laws.proofs.Prelude.{◌≡◌, refl, Bool, true, false, cond, ◌⊎◌, inl, inr, ⊎_elim, List, [], ◌∷◌, ℕ, zero, suc, ◌+◌, add-zero, arith, eqb, take}
use Rattle.text.specs.{declared.position.Position.Position, Ranges.within, Utf8.continuation}
use Rattle.text.specs.Position.{Units, characters, step, walk, start_position, position_of, utf16}
use Rattle.citation.specs.Columns.{begins_four, from_line, fours_in, recounted}
use Rattle.citation.proofs.Fours.{fours_none, fours_on, fours_next, from_zero, from_on, from_next}

pub same_position : {p q : Position} → p.line ≡ q.line → p.column ≡ q.column → p ≡ q
same_position {p} {q} i j =
    let same : ◌≡◌ {A = Position} (record { line = p.line; column = p.column }) (record { line = q.line; column = q.column }) = rw (i, j) in
    same

-- some bytes of s lead from p to p' in characters and from q to q' in UTF-16 code units: on the same line, k characters on; or n + 1 lines on
abbrev Leads : List ℕ → Position → Position → Position → Position → Type 0
Leads s p q p' q' =
    ((k : ℕ) × (p'.line ≡ p.line) × (p'.column ≡ p.column + k) × (q'.line ≡ q.line) × (q'.column ≡ q.column + (k + fours_in k s)))
    ⊎ ((n : ℕ) × (p'.line ≡ p.line + suc n) × (q'.line ≡ q.line + suc n) × (q'.column ≡ p'.column + fours_in p'.column (from_line (suc n) s)))

-- no bytes
stays : (s : List ℕ) (p q : Position) → Leads s p q p q
stays s p q = inl (0, refl, omega arith, refl, rw (fours_none s) (omega arith))

module _ (b : ℕ) (s : List ℕ) (p q p' q' : Position) where
  -- an LF before them
  ended : eqb b 0x0A ≡ true → Leads s (record { line = p.line + 1; column = 0 }) (record { line = q.line + 1; column = 0 }) p' q' → Leads (b ∷ s) p q p' q'
  ended e =
      ⊎_elim
      (λ (k, a, c, d, f). let same : p'.column ≡ k = omega arith in inr (0, omega arith, omega arith, rw (from_next 0 b s e, from_zero, same) (omega arith)))
      (λ (n, a, c, d). inr (suc n, omega arith, omega arith, rw (from_next (suc n) b s e) d))

  -- a byte that goes on with a character
  goes_on : eqb b 0x0A ≡ false → within continuation b ≡ true → Leads s p q p' q' → Leads (b ∷ s) p q p' q'
  goes_on e on =
      ⊎_elim
      (λ (k, a, c, d, f). inl (k, a, c, d, rw (fours_on k b s on) f))
      (λ (n, a, c, d). inr (n, a, c, rw (from_on n b s e) d))

  -- one that begins a character
  begins : eqb b 0x0A ≡ false → within continuation b ≡ false
      → Leads s (record { line = p.line; column = p.column + 1 }) (record { line = q.line; column = q.column + utf16 b }) p' q' → Leads (b ∷ s) p q p' q'
  begins e on =
      ⊎_elim
      (λ (k, a, c, d, f). inl (suc k, a, omega arith, d, rw (fours_next k b s on) (omega (arith, f, units (begins_four b)))))
      (λ (n, a, c, d). inr (n, a, c, rw (from_on n b s e) d))
    where
      units : (four : Bool) → cond four 2 1 ≡ 1 + cond four 1 0
      units true = refl
      units false = refl

-- the position past a byte
module _ (unit : Units) (p : Position) (b : ℕ) where
  past_end : eqb b 0x0A ≡ true → step unit p b ≡ record { line = p.line + 1; column = 0 }
  unfolding step
  past_end e = rw e

  past_on : eqb b 0x0A ≡ false → within continuation b ≡ true → step unit p b ≡ p
  unfolding step
  past_on e on = rw (e, on, add-zero)

  past_first : eqb b 0x0A ≡ false → within continuation b ≡ false → step unit p b ≡ record { line = p.line; column = p.column + unit b }
  unfolding step
  past_first e on = rw (e, on)

leads : (s : List ℕ) (n : ℕ) (p q : Position) → Leads s p q (walk characters p (take n s)) (walk utf16 q (take n s))
unfolding walk
leads [] zero p q = stays [] p q
leads [] (suc n) p q = stays [] p q
leads (b ∷ s) zero p q = stays (b ∷ s) p q
leads (b ∷ s) (suc n) p q = by (eqb b 0x0A) refl (within continuation b) refl (leads s n)
  where
    by : (ending : Bool) → eqb b 0x0A ≡ ending → (going : Bool) → within continuation b ≡ going
        → ((p q : Position) → Leads s p q (walk characters p (take n s)) (walk utf16 q (take n s)))
        → Leads (b ∷ s) p q (walk characters (step characters p b) (take n s)) (walk utf16 (step utf16 q b) (take n s))
    by true e going on behind = rw (past_end characters p b e, past_end utf16 q b e) (ended b s p q _ _ e (behind _ _))
    by false e true on behind = rw (past_on characters p b e on, past_on utf16 q b e on) (goes_on b s p q _ _ e on (behind p q))
    by false e false on behind = rw (past_first characters p b e on, past_first utf16 q b e on) (begins b s p q _ _ e on (behind _ _))

-- from the start of the source
led : (s : List ℕ) {p q : Position} → Leads s start_position start_position p q → recounted s p ≡ q
unfolding recounted
led s {p} =
    ⊎_elim
    (λ (k, a, c, d, f). same_position (omega arith) (let same : p.column ≡ k = omega arith in rw (a, from_zero, same) (omega arith)))
    (λ (n, a, c, d). let same : p.line ≡ suc n = omega arith in same_position (omega arith) (rw (same, d)))

pub recounts : (s : List ℕ) (at : ℕ) → recounted s (position_of characters s at) ≡ position_of utf16 s at
unfolding position_of
recounts s at = led s (leads s at start_position start_position)
