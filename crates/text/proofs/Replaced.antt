-- The surrogates of a text replaced by U+FFFD: what is left to be written and to be counted from one place to the next; the lossy text is as
-- long as the text, and is the text itself where there is no surrogate.
use Rattle.laws.proofs.Prelude.{◌≡◌, refl, ap, ◌∙◌, Bool, true, false, List, [], ◌∷◌, ℕ, zero, suc, ◌+◌, ◌≤◌, ◌<◌, arith, add-one, length, get_or, drop}
use Rattle.laws.proofs.Prelude.{false≢true, eqb, drop_of_length-le, drop-cons, drop-drop, eqb-true}
use lib.Dec.{eqb-suc-zero}
use Rattle.text.specs.Utf8.{admits, surrogate}
use Rattle.text.specs.Lossy.{marking, counting, replacing, surrogates, lossy, replaced, exact}
use Rattle.text.proofs.Formed.{admitted}

-- the bytes skipped are dropped
skipped : (n : ℕ) (s : List ℕ) → replacing n s ≡ lossy (drop n s)
unfolding replacing
skipped zero s = refl
skipped (suc n) [] = refl
skipped (suc n) (x ∷ s) = skipped n s

skipped_count : (n : ℕ) (s : List ℕ) → surrogates n s ≡ replaced (drop n s)
unfolding surrogates
skipped_count zero s = refl
skipped_count (suc n) [] = refl
skipped_count (suc n) (x ∷ s) = skipped_count n s

-- at the end nothing is left to be counted
pub none_left : (s : List ℕ) (i : ℕ) → length s ≤ i → replaced (drop i s) ≡ 0
unfolding surrogates
none_left s i h = rw (drop_of_length-le s h)

-- from a place of the text on: U+FFFD and the rest, or a byte and the rest
module _ (s : List ℕ) (i : ℕ) (l : i < length s) where
  past_two : drop 2 (drop (suc i) s) ≡ drop (i + 3) s
  past_two =
      let e : suc i + 2 ≡ i + 3 = omega arith in
      drop-drop 2 (suc i) s ∙ ap (λ (m : ℕ). drop m s) e

  module _ (e : admits surrogate (drop i s) ≡ true) where
    pub marked : lossy (drop i s) ≡ 0xEF ∷ 0xBF ∷ 0xBD ∷ lossy (drop (i + 3) s)
    unfolding replacing
    marked = rw (drop-cons s i 0 l) (rw (rw (drop-cons s i 0 l) at e, skipped 2 (drop (suc i) s), past_two))

    pub marked_count : replaced (drop i s) ≡ suc (replaced (drop (i + 3) s))
    unfolding surrogates
    marked_count = rw (drop-cons s i 0 l) (rw (rw (drop-cons s i 0 l) at e, skipped_count 2 (drop (suc i) s), past_two))

  module _ (e : admits surrogate (drop i s) ≡ false) where
    pub copied : lossy (drop i s) ≡ get_or s i 0 ∷ lossy (drop (i + 1) s)
    unfolding replacing
    copied = rw (add-one, drop-cons s i 0 l) (rw (rw (drop-cons s i 0 l) at e))

    pub copied_count : replaced (drop i s) ≡ replaced (drop (i + 1) s)
    unfolding surrogates
    copied_count = rw (add-one, drop-cons s i 0 l) (rw (rw (drop-cons s i 0 l) at e))

-- a text is exact where no surrogate stands at any place, and is not where one stands
pub nowhere : (s : List ℕ) → ((i : ℕ) → i < length s → admits surrogate (drop i s) ≡ false) → exact s ≡ true
unfolding surrogates
nowhere [] none = refl
nowhere (x ∷ s) none = rw (none 0 (omega arith)) (nowhere s (λ i l. none (suc i) (omega arith)))

pub somewhere : (s : List ℕ) (i : ℕ) → admits surrogate (drop i s) ≡ true → exact s ≡ false
unfolding admits surrogates
somewhere [] zero e = absurd (false≢true e)
somewhere [] (suc i) e = absurd (false≢true e)
somewhere (x ∷ s) zero e = rw e (eqb-suc-zero _)
somewhere (x ∷ s) (suc i) e = go (admits surrogate (x ∷ s)) (somewhere s i e)
  where
    go : (b : Bool) → exact s ≡ false → eqb (counting b (λ n. surrogates n s)) 0 ≡ false
    go true h = eqb-suc-zero _
    go false h = h

-- the lossy text is as long as the text
length_replacing : (n : ℕ) (s : List ℕ) → n ≤ length s → n + length (replacing n s) ≡ length s
unfolding replacing
length_replacing n [] h = omega arith
length_replacing (suc n) (x ∷ s) h = let r = length_replacing n s (omega arith) in omega arith
length_replacing zero (x ∷ s) h = go (admits surrogate (x ∷ s)) refl (length_replacing 2 s) (length_replacing 0 s)
  where
    go : (b : Bool) → admits surrogate (x ∷ s) ≡ b → (2 ≤ length s → 2 + length (replacing 2 s) ≡ length s) →
        (0 ≤ length s → 0 + length (replacing 0 s) ≡ length s)
        → 0 + length (marking b x (λ n. replacing n s)) ≡ suc (length s)
    go true e two none =
        let in_text = admitted surrogate (x ∷ s) e in
        let r = two (omega arith) in
        omega arith
    go false e two none = let r = none (omega arith) in omega arith

pub lossy_length : (s : List ℕ) → length (lossy s) ≡ length s
lossy_length s = omega (arith, length_replacing 0 s (omega arith))

-- with no surrogate it is the text itself
none_replaced : (s : List ℕ) → replaced s ≡ 0 → lossy s ≡ s
unfolding replacing surrogates
none_replaced [] e = refl
none_replaced (x ∷ s) e = go (admits surrogate (x ∷ s)) e (none_replaced s)
  where
    go : (b : Bool) → counting b (λ n. surrogates n s) ≡ 0 → (replaced s ≡ 0 → lossy s ≡ s) → marking b x (λ n. replacing n s) ≡ x ∷ s
    go true z f = absurd (omega arith)
    go false z f = ap (λ (t : List ℕ). x ∷ t) (f z)

pub exact_lossy : (s : List ℕ) → exact s ≡ true → lossy s ≡ s
exact_lossy s e = none_replaced s (eqb-true (replaced s) 0 e)
