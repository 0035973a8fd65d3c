-- Rows that match nowhere before a character of a class. A longest run of the class before such a row goes back nowhere.
use Rattle.laws.proofs.Prelude.{◌≡◌, refl, sym, ◌∙◌, Bool, true, false, not, cond, ◌&&◌, ◌||◌, and-eq-true_iff, false≢true, List, [], ◌∷◌, Memᴰ}
use Rattle.laws.proofs.Prelude.{Memᴰ_head, Memᴰ_tail, Memᴰ_not_nil, Memᴰ_cases_cons, ⊎_elim, ℕ, ◌+◌, ◌-◌, arith, eqb, drop, eqb-true}
use mathlib.Core.Bool.{not-eq-not}
use borrow.Author.Tests.{not-true}
use Rattle.text.specs.{declared.class.Class.Class, declared.utf8.Encoding.TheVariants.Utf8, Ranges.◌to◌, Ranges.within, Utf8.char_at}
use Rattle.text.specs.declared.class.Class.TheVariants.{White, NotWhite, Quote}
use Rattle.text.specs.Class.{ranges, outside, member, class_at, run_end}
use Rattle.text.proofs.{Members.one_point, Members.together, WithinRange.within_iff}
use Rattle.analysis.specs.{declared.Capture.Capture, code.Matcher.BeginsWithAtSign}
use Rattle.analysis.specs.Letters.{fold_case, letter_at, word_at}
use Rattle.analysis.specs.Row.{Row, word, one, longest, from, either, all}
use Rattle.analysis.proofs.Ends.{only_longest}

-- the row matches nowhere before a character of the class
pub record Apart (c : Class) (r : Row) : Type 0 where
  pub nowhere : (s : List ℕ) (at : ℕ) (k : Capture) → (class_at c (drop at s) ≡ 0 → ⊥) → all r s at k ≡ []

-- the longest run is the only one that counts before such a row
pub past_run : {c : Class} {r : Row} → Apart c r → (s : List ℕ) (at : ℕ) (k : Capture)
    → all (longest c r) s at k ≡ all r s (run_end c s at) k
unfolding all
past_run {c} {r} h s at k = only_longest c s (λ e. all r s e k) (λ e. h.nowhere s e k) at

-- a class has a character at a place only where that is a member
member_at : (c : Class) (s : List ℕ) → (class_at c s ≡ 0 → ⊥) → member c (char_at Utf8 s).code ≡ true
unfolding class_at
member_at c s h = go (member c (char_at Utf8 s).code) h
  where
    go : (b : Bool) → (cond b (char_at Utf8 s).len 0 ≡ 0 → ⊥) → b ≡ true
    go true f = refl
    go false f = absurd (f refl)

-- a character of a class that has no member in common with it
one_apart : {c d : Class} {r : Row} → ((p : ℕ) → member c p ≡ true → member d p ≡ false) → Apart c (one d r)
unfolding all class_at
one_apart {c} {d} h = record { nowhere = λ s at k z. rw (h (char_at Utf8 (drop at s)).code (member_at c (drop at s) z)) }

pub white_apart : {r : Row} → Apart White (one NotWhite r)
unfolding member ranges outside
white_apart = one_apart (λ p e. rw e)

-- the class has none of the code points
abbrev free : Class → List ℕ → Bool
free c [] = true
free c (p ∷ ps) = not (member c p) && free c ps

none_of : (c : Class) (ps : List ℕ) → free c ps ≡ true → {p : ℕ} → Memᴰ p ps → member c p ≡ true → ⊥
none_of c [] t m e = Memᴰ_not_nil m
none_of c (q ∷ ps) t m e =
    let (here, others) = (and-eq-true_iff (not (member c q)) (free c ps)).0 t in
    ⊎_elim (λ i. false≢true (sym (not-true (member c q) here) ∙ rw i at e)) (λ i. none_of c ps others i e) (Memᴰ_cases_cons m)

-- one of the quotes
pub quotes : (p : ℕ) → member Quote p ≡ true → Memᴰ p (0x22 ∷ 0x27 ∷ [])
unfolding member ranges outside
quotes p e = go (eqb p 0x22) refl (rw (together ((0x22 to 0x22) ∷ []) ((0x27 to 0x27) ∷ []) p, one_point, one_point) at e)
  where
    go : (b : Bool) → eqb p 0x22 ≡ b → (eqb p 0x22 || eqb p 0x27) ≡ true → Memᴰ p (0x22 ∷ 0x27 ∷ [])
    go true t f = Memᴰ_head (eqb-true p 0x22 t)
    go false t f = Memᴰ_tail (Memᴰ_head (eqb-true p 0x27 (rw t at f)))

pub quote_apart : {c : Class} {r : Row} → free c (0x22 ∷ 0x27 ∷ []) ≡ true → Apart c (one Quote r)
quote_apart {c} t = one_apart (λ p e. not-eq-not.0 (λ q. none_of c (0x22 ∷ 0x27 ∷ []) t (quotes p q) e))

-- what can fold to f: itself, its capital, and the two that are no ASCII letters
abbrev spellings : ℕ → List ℕ
spellings f = f ∷ cond (within (0x61 to 0x7A) f) (f - 0x20) f ∷ 0x17F ∷ 0x212A ∷ []

capital : (p : ℕ) → within (0x41 to 0x5A) p ≡ true → Memᴰ p (spellings (p + 0x20))
capital p t =
    let b = (within_iff 0x41 0x5A p).0 t in
    let e : p ≡ p + 0x20 - 0x20 = omega arith in
    rw ((within_iff 0x61 0x7A (p + 0x20)).1 (omega arith)) (Memᴰ_tail (Memᴰ_head e))

folded : (p : ℕ) → Memᴰ p (spellings (fold_case p))
unfolding fold_case
folded p = go (within (0x41 to 0x5A) p) refl (eqb p 0x17F) refl (eqb p 0x212A) refl
  where
    go : (a : Bool) → within (0x41 to 0x5A) p ≡ a → (b : Bool) → eqb p 0x17F ≡ b → (c : Bool) → eqb p 0x212A ≡ c
        → Memᴰ p (spellings (fold_case p))
    go true t b u c v = rw t (capital p t)
    go false t true u c v = rw (t, u) (Memᴰ_tail (Memᴰ_tail (Memᴰ_head (eqb-true p 0x17F u))))
    go false t false u true v = rw (t, u, v) (Memᴰ_tail (Memᴰ_tail (Memᴰ_tail (Memᴰ_head (eqb-true p 0x212A v)))))
    go false t false u false v = rw (t, u, v) (Memᴰ_head refl)

-- a word whose first letter is none of the class, whatever its case
no_letter : (c : Class) (w p : ℕ) → free c (spellings (fold_case w)) ≡ true → member c p ≡ true → eqb (fold_case p) (fold_case w) ≡ false
no_letter c w p t m = not-eq-not.0 λ q.
    let same : fold_case p ≡ fold_case w = eqb-true (fold_case p) (fold_case w) q in
    none_of c (spellings (fold_case w)) t (rw same at (folded p)) m

pub word_apart : {c : Class} {w : ℕ} {ws : List ℕ} {r : Row} → free c (spellings (fold_case w)) ≡ true → Apart c (word (w ∷ ws) r)
unfolding all word_at letter_at
word_apart {c} {w} t = record { nowhere = λ s at k z. rw (no_letter c w (char_at Utf8 (drop at s)).code t (member_at c (drop at s) z)) }

-- a word that begins with @
pub at_apart : {c : Class} {w : List ℕ} {r : Row} → BeginsWithAtSign w → free c (spellings 0x40) ≡ true → Apart c (word w r)
unfolding fold_case
at_apart {c} {w = []} b t = absurd (omega arith)
at_apart {c} {w = x ∷ w} b t = rw b (word_apart t)

pub either_apart : {c : Class} {a b : Row} → Apart c a → Apart c b → Apart c (either a b)
unfolding all
either_apart x y = record { nowhere = λ s at k z. rw (x.nowhere s at k z, y.nowhere s at k z) }

module _ {c : Class} {r : Row} (x : Apart c r) where
  pub from_apart : {quoted : Bool} → Apart c (from quoted r)
  unfolding all
  from_apart = record { nowhere = λ s at k z. x.nowhere s at _ z }

  pub to_apart : Apart c (Row.to r)
  unfolding all
  to_apart = record { nowhere = λ s at k z. x.nowhere s at _ z }
