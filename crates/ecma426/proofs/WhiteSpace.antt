-- ECMAScript's whitespace beside Unicode's White_Space: U+0085 is not in it, U+FEFF is, and nothing else differs.
use Rattle.laws.proofs.Prelude.{◌≡◌, refl, sym, Bool, true, false, not, ◌&&◌, ◌||◌, and-eq-true_iff, false≢true, inl, inr, ⊎_elim, ◌↔◌, List, [], ◌∷◌}
use Rattle.laws.proofs.Prelude.{◌++◌, ℕ, zero, suc, ◌+◌, ◌-◌, ◌≤◌, ◌<◌, arith, ℕ_discrete, eqb, eqb-true}
use Rattle.std.proofs.lemmas.Bool.{or_cases}
use Rattle.laws.specs.code.Told.{Meant}
use Rattle.text.specs.Ranges.{Range, ◌to◌, within, in_ranges}
use Rattle.text.specs.WhiteSpace as unicode
use Rattle.text.proofs.WithinRange.{within_iff}
use Rattle.ecma426.specs.WhiteSpace.{white_space, line_terminator, is_space, ByUnicode}

-- the test passes of n numbers from the first on, and of each number of some ranges
abbrev passes_from : (ℕ → Bool) → ℕ → ℕ → Bool
passes_from test first zero = true
passes_from test first (suc n) = test first && passes_from test (suc first) n

abbrev passes : (ℕ → Bool) → List Range → Bool
passes test [] = true
passes test ((lo to hi) ∷ rs) = passes_from test lo (suc hi - lo) && passes test rs

module _ (test : ℕ → Bool) (p : ℕ) where
  passed_from : (first n : ℕ) → passes_from test first n ≡ true → first ≤ p → p < first + n → test p ≡ true
  passed_from first zero e l h = absurd (omega arith)
  passed_from first (suc n) e l h =
      let (here, rest) = (and-eq-true_iff (test first) (passes_from test (suc first) n)).0 e in
      go here (ℕ_discrete p first) (λ i. passed_from (suc first) n rest (omega arith) (omega arith))
    where
      go : test first ≡ true → Dec (p ≡ first) → ((p ≡ first → ⊥) → test p ≡ true) → test p ≡ true
      go here (yes i) later = rw i here
      go here (no i) later = later i

  passed : (rs : List Range) → passes test rs ≡ true → in_ranges rs p ≡ true → test p ≡ true
  unfolding in_ranges
  passed [] e m = absurd (false≢true m)
  passed ((lo to hi) ∷ rs) e m =
      let (here, more) = (and-eq-true_iff (passes_from test lo (suc hi - lo)) (passes test rs)).0 e in
      ⊎_elim
      (λ w. let (l, h) = (within_iff lo hi p).0 w in passed_from lo (suc hi - lo) here l (omega arith))
      (passed rs more)
      (or_cases (within (lo to hi) p) (in_ranges rs p) m)

module _ (p : ℕ) where
  to_unicode : is_space p ≡ true → ByUnicode p
  unfolding is_space in_ranges
  to_unicode e =
      ⊎_elim
      (λ a. let (u, n) = (and-eq-true_iff (in_ranges unicode.white_space p) (not (eqb p 0x85))).0 a in inl (u, λ i. false≢true (rw i at n)))
      (λ a. inr (eqb-true p 0xFEFF a))
      (or_cases _ _ (passed (λ x. (in_ranges unicode.white_space x && not (eqb x 0x85)) || eqb x 0xFEFF) p (white_space ++ line_terminator) refl e))

  from_unicode : ByUnicode p → is_space p ≡ true
  unfolding is_space in_ranges
  from_unicode (inl (u, n)) =
      ⊎_elim (λ a. a) (λ a. absurd (n (eqb-true p 0x85 a)))
      (or_cases _ _ (passed (λ x. is_space x || eqb x 0x85) p unicode.white_space refl u))
  from_unicode (inr e) = rw e

-- an answer that is true just there
pub answers : {r : Bool} {p : ℕ} → (r ≡ true → ByUnicode p) → (ByUnicode p → r ≡ true) → Meant (r ≡ is_space p) ((r ≡ true) ↔ ByUnicode p)
answers {r} {p} f g = record { answer = go r (is_space p) (λ e. from_unicode p (f e)) (λ e. g (to_unicode p e)); meaning = (f, g) }
  where
    go : (a b : Bool) → (a ≡ true → b ≡ true) → (b ≡ true → a ≡ true) → a ≡ b
    go true b f g = sym (f refl)
    go false true f g = absurd (false≢true (g refl))
    go false false f g = refl
