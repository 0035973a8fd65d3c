-- The bytes of a character: the first begins it, and each other goes on with it.
use mathlib.Core.Bool.{not-eq-not}
use lib.Seq.{get_or-take}
use Rattle.laws.proofs.Prelude.{◌≡◌, refl, sym, ◌∙◌, Bool, true, false, ◌&&◌, ◌||◌, and-eq-true_iff, false≢true, true≢false, List, [], ◌∷◌, ℕ, zero, suc, ◌+◌}
use Rattle.laws.proofs.Prelude.{◌-◌, ◌≤◌, ◌<◌, add-zero, arith, leb, ltb, length, get_or, take, drop, get_or-drop, leb-true, ltb-true, ltb-false}
use Rattle.std.proofs.lemmas.Bool.{cond_both}
use Rattle.text.{specs.declared.utf8.Encoding.TheVariants.Utf8, proofs.Formed.every_row, proofs.WithinRange.within_iff}
use Rattle.text.specs.Ranges.{Range, ◌to◌, within}
use Rattle.text.specs.Utf8.{admits, continuation, Row, char, never, length_by, rows, char_length}
use Rattle.steps.specs.Answers.{Precedes}

-- ranges of which the first has no byte that goes on with a character, and the others have no other
abbrev goes_on : List Range → Bool
goes_on [] = true
goes_on ((lo to hi) ∷ rs) = leb 0x80 lo && leb hi 0xBF && goes_on rs

abbrev begins : List Range → Bool
begins [] = true
begins ((lo to hi) ∷ rs) = (leb hi 0x7F || leb 0xC0 lo) && goes_on rs

-- a byte of a range that lies within the other
going : (rs : List Range) (s : List ℕ) → admits rs s ≡ true → goes_on rs ≡ true → (q : ℕ) → q < length rs → within continuation (get_or s q 0) ≡ true
unfolding admits
going [] s a g q l = absurd (omega arith)
going (r ∷ rs) [] a g q l = absurd (false≢true a)
going ((lo to hi) ∷ rs) (x ∷ s) a g zero l =
    let (w, _) = (and-eq-true_iff (within (lo to hi) x) (admits rs s)).0 a in
    let (h, _) = (and-eq-true_iff (leb 0x80 lo && leb hi 0xBF) (goes_on rs)).0 g in
    let (i, j) = (and-eq-true_iff (leb 0x80 lo) (leb hi 0xBF)).0 h in
    let (b, d) = (within_iff lo hi x).0 w in
    (within_iff 0x80 0xBF x).1 (omega (arith, leb-true 0x80 lo i), omega (arith, leb-true hi 0xBF j))
going ((lo to hi) ∷ rs) (x ∷ s) a g (suc q) l =
    going rs s ((and-eq-true_iff (within (lo to hi) x) (admits rs s)).0 a).1 ((and-eq-true_iff (leb 0x80 lo && leb hi 0xBF) (goes_on rs)).0 g).1 q (omega arith)

-- the bytes of a character of n bytes
abbrev Begun : List ℕ → ℕ → Type 0
Begun s n = 0 < n → (within continuation (get_or s 0 0) ≡ false) × ((q : ℕ) → 0 < q → q < n → within continuation (get_or s q 0) ≡ true)

begun_by : (s : List ℕ) (rs : List Range) → admits rs s ≡ true → begins rs ≡ true → Begun s (length rs)
unfolding admits
begun_by s [] a g l = absurd (omega arith)
begun_by [] (r ∷ rs) a g l = absurd (false≢true a)
begun_by (x ∷ s) ((lo to hi) ∷ rs) a g l =
    let (w, more) = (and-eq-true_iff (within (lo to hi) x) (admits rs s)).0 a in
    let (h, on) = (and-eq-true_iff (leb hi 0x7F || leb 0xC0 lo) (goes_on rs)).0 g in
    let (b, d) = (within_iff lo hi x).0 w in
    (not-eq-not.0 (λ e. let (i, j) = (within_iff 0x80 0xBF x).0 e in apart (leb hi 0x7F) refl h b d i j), others more on)
  where
    apart : (low : Bool) → leb hi 0x7F ≡ low → (low || leb 0xC0 lo) ≡ true → lo ≤ x → x ≤ hi → 0x80 ≤ x → x ≤ 0xBF → ⊥
    apart true e h b d i j = omega (arith, leb-true hi 0x7F e)
    apart false e h b d i j = omega (arith, leb-true 0xC0 lo h)

    others : admits rs s ≡ true → goes_on rs ≡ true → (q : ℕ) → 0 < q → q < suc (length rs) → within continuation (get_or (x ∷ s) q 0) ≡ true
    others m o zero z h = absurd (omega arith)
    others m o (suc q) z h = going rs s m o q (omega arith)

-- what holds of 0, and of the length of each row that admits the text and passes a test, holds of the character's length
module _ (P : ℕ → Type 0) (none : P 0) (test : List Range → Bool) where
  by_rows : (s : List ℕ) → ((rs : List Range) → admits rs s ≡ true → test rs ≡ true → P (length rs))
      → (table : List Row) → every_row test table ≡ true → P (length_by table s)
  unfolding length_by
  by_rows s f [] t = none
  by_rows s f (char first last rs ∷ more) t =
      let both = (and-eq-true_iff (test rs) (every_row test more)).0 t in
      cond_both (admits rs s) _ _ P (λ h. f rs h both.0) (λ h. by_rows s f more both.1)
  by_rows s f (never rs ∷ more) t = cond_both (admits rs s) _ _ P (λ h. none) (λ h. by_rows s f more t)

begun : (s : List ℕ) → Begun s (char_length Utf8 s)
unfolding char_length
begun s = by_rows (Begun s) (λ l. absurd (omega arith)) begins s (begun_by s) (rows Utf8) refl

-- the last place before `end` whose byte goes on with no character, or the first place of all, is where the character begins that ends there
pub precedes : (s : List ℕ) (end i : ℕ) → ((j : ℕ) → i < j → j < end → within continuation (get_or (take end s) j 0) ≡ true)
    → (0 < i → within continuation (get_or (take end s) i 0) ≡ false) → i < end → Precedes s end i
precedes s end i inner stop l d h e = go (ltb i d) refl (ltb d i) refl
  where
    n : ℕ
    n = char_length Utf8 (drop d s)

    first : within continuation (get_or s d 0) ≡ false
    first = rw (get_or-drop, add-zero) at (begun (drop d s) (omega arith)).0

    other : (q : ℕ) → 0 < q → q < n → within continuation (get_or s (d + q) 0) ≡ true
    other q z b = rw get_or-drop at ((begun (drop d s) (omega arith)).1 q z b)

    go : (a : Bool) → ltb i d ≡ a → (b : Bool) → ltb d i ≡ b → i ≡ d
    go true p b r = absurd (true≢false (sym (rw (get_or-take end s d 0 h) at (inner d (ltb-true i d p) h)) ∙ first))
    go false p true r =
        let k = ltb-true d i r in
        let there : d + (i - d) ≡ i = omega arith in
        absurd (true≢false (sym (rw there at (other (i - d) (omega arith) (omega arith))) ∙ rw (get_or-take end s i 0 l) at (stop (omega arith))))
    go false p false r = omega (arith, ltb-false i d p, ltb-false d i r)
