-- Characters of four bytes, counted from the start of a line.
use Rattle.laws.proofs.Prelude.{◌≡◌, refl, sym, ap, ◌∙◌, Bool, true, false, cond, List, [], ◌∷◌, ◌++◌, ℕ, zero, suc, ◌+◌, ◌-◌, ◌≤◌, ◌<◌, add-one, arith, eqb}
use Rattle.laws.proofs.Prelude.{length, get_or, take, drop, drop-cons, eq-eqb, ne_eqb}
use lib.{ListN.take-append-drop, Seq.drop-length}
use Rattle.std.specs.Prelude.{not, filter, count_by}
use Rattle.std.proofs.lemmas.List.Sums.{length-filter, sum_by-cons}
use Rattle.laws.specs.Codec.{All}
use Rattle.text.specs.{declared.position.Position.Position, Ranges.within, Utf8.continuation, code.Places.First}
use Rattle.citation.specs.Columns.{begins_four, from_line, fours_in, recounted}

-- no more of them than characters
pub fours_most : (n : ℕ) (s : List ℕ) → fours_in n s ≤ n
unfolding fours_in
fours_most n [] = omega arith
fours_most zero (b ∷ s) = omega arith
fours_most (suc n) (b ∷ s) = by (within continuation b) (begins_four b) (fours_most (suc n) s) (fours_most n s)
  where
    by : (on four : Bool) → fours_in (suc n) s ≤ suc n → fours_in n s ≤ n → cond on (fours_in (suc n) s) (cond four 1 0 + fours_in n s) ≤ suc n
    by true four h k = h
    by false true h k = omega arith
    by false false h k = omega arith

pub fours_none : (s : List ℕ) → fours_in 0 s ≡ 0
fours_none s = omega (arith, fours_most 0 s)

-- a byte that goes on with a character, and one that begins a character
pub fours_on : (n b : ℕ) (s : List ℕ) → within continuation b ≡ true → fours_in n (b ∷ s) ≡ fours_in n s
unfolding fours_in
fours_on zero b s e = rw (fours_none s)
fours_on (suc n) b s e = rw e

pub fours_next : (n b : ℕ) (s : List ℕ) → within continuation b ≡ false → fours_in (suc n) (b ∷ s) ≡ cond (begins_four b) 1 0 + fours_in n s
unfolding fours_in
fours_next n b s e = rw e

pub from_zero : (s : List ℕ) → from_line 0 s ≡ s
unfolding from_line
from_zero [] = refl
from_zero (b ∷ s) = refl

-- a byte on the line before, and the LF that ends it
pub from_on : (n b : ℕ) (s : List ℕ) → eqb b 0x0A ≡ false → from_line (suc n) (b ∷ s) ≡ from_line (suc n) s
unfolding from_line
from_on n b s e = rw e

pub from_next : (n b : ℕ) (s : List ℕ) → eqb b 0x0A ≡ true → from_line (suc n) (b ∷ s) ≡ from_line n s
unfolding from_line
from_next n b s e = rw e

from_none : (n : ℕ) → from_line n [] ≡ []
unfolding from_line
from_none n = refl

-- past bytes that are no LF
from_end : (n : ℕ) (s : List ℕ) (end : ℕ) → end ≤ length s → ((k : ℕ) → 0 ≤ k → k < end → get_or s k 0 ≡ 0x0A → ⊥)
    → from_line (suc n) s ≡ from_line (suc n) (drop end s)
from_end n s zero l none = refl
from_end n [] (suc end) l none = absurd (omega arith)
from_end n (b ∷ s) (suc end) l none =
    from_on n b s (ne_eqb b 0x0A (none 0 (omega arith) (omega arith)))
    ∙ from_end n s end (omega arith) (λ k g h. none (suc k) (omega arith) (omega arith))

-- ---- as the code goes

-- at a line, past the LF at `end`, or none
pub this_line : (n : ℕ) (s : List ℕ) → n ≡ 0 → from_line n s ≡ s
this_line n s none = rw (none, from_zero)

pub next_line : (n less : ℕ) (s : List ℕ) (end : ℕ) → n ≡ less + 1 → First 0x0A s 0 end → end < length s
    → from_line n s ≡ from_line less (drop (end + 1) s)
next_line n less s end more f i =
    let one : n ≡ suc less = omega arith in
    ap (λ (k : ℕ). from_line k s) one
    ∙ from_end less s end f.passed.to f.passed.each
    ∙ rw (drop-cons s end 0 i, add-one) (from_next less (get_or s end 0) (drop (suc end) s) (eq-eqb (get_or s end 0) 0x0A (f.there i)))

pub no_line : (n : ℕ) (s : List ℕ) → 0 < n → First 0x0A s 0 (length s) → from_line n s ≡ []
no_line n s some f =
    let more : n ≡ suc (n - 1) = omega arith in
    ap (λ (k : ℕ). from_line k s) more
    ∙ from_end (n - 1) s (length s) f.passed.to f.passed.each
    ∙ rw drop-length (from_none (suc (n - 1)))

-- does the byte begin a character?
abbrev pub begins : ℕ → Bool
begins b = not (within continuation b)

-- of the first n bytes that do, those that begin one of four bytes
counted : (n : ℕ) (s : List ℕ) → count_by begins_four (take n (filter begins s)) ≡ fours_in n s
unfolding fours_in
counted zero s = sym (fours_none s)
counted (suc n) [] = refl
counted (suc n) (b ∷ s) = by (within continuation b) (counted (suc n) s) (counted n s)
  where
    by : (on : Bool) → count_by begins_four (take (suc n) (filter begins s)) ≡ fours_in (suc n) s
        → count_by begins_four (take n (filter begins s)) ≡ fours_in n s
        → count_by begins_four (take (suc n) (cond (not on) (b ∷ filter begins s) (filter begins s)))
        ≡ cond on (fours_in (suc n) s) (cond (begins_four b) 1 0 + fours_in n s)
    by true h k = h
    by false h k = sum_by-cons _ b (take n (filter begins s)) ∙ ap (cond (begins_four b) 1 0 +◌) k

pub fours_counted : (n : ℕ) (s : List ℕ) → length (filter begins_four (take n (filter begins s))) ≡ fours_in n s
fours_counted n s = length-filter begins_four (take n (filter begins s)) ∙ counted n s

-- ---- behind the last of them

abbrev Plain : List ℕ → Type 0
Plain = All (λ b. begins_four b ≡ false)

plain_fours : (n : ℕ) (s : List ℕ) → Plain s → fours_in n s ≡ 0
unfolding fours_in
plain_fours n [] p = refl
plain_fours zero (b ∷ s) p = refl
plain_fours (suc n) (b ∷ s) p = by (within continuation b) (plain_fours (suc n) s p.1) (plain_fours n s p.1)
  where
    by : (on : Bool) → fours_in (suc n) s ≡ 0 → fours_in n s ≡ 0 → cond on (fours_in (suc n) s) (cond (begins_four b) 1 0 + fours_in n s) ≡ 0
    by true h k = h
    by false h k = rw (p.0, k)

fours_front : (n : ℕ) (s t : List ℕ) → Plain t → fours_in n (s ++ t) ≡ fours_in n s
unfolding fours_in
fours_front n [] t p = plain_fours n t p
fours_front zero (b ∷ s) t p = refl
fours_front (suc n) (b ∷ s) t p = rw (fours_front (suc n) s t p, fours_front n s t p)

plain_from : (n : ℕ) (s : List ℕ) → Plain s → Plain (from_line n s)
unfolding from_line
plain_from n [] p = tt
plain_from zero (b ∷ s) p = p
plain_from (suc n) (b ∷ s) p = plain_from (cond (eqb b 0x0A) n (suc n)) s p.1

from_front : (k n : ℕ) (s t : List ℕ) → Plain t → fours_in k (from_line n (s ++ t)) ≡ fours_in k (from_line n s)
unfolding fours_in from_line
from_front k n [] t p = plain_fours k (from_line n t) (plain_from n t p)
from_front k zero (b ∷ s) t p = fours_front k (b ∷ s) t p
from_front k (suc n) (b ∷ s) t p = from_front k (cond (eqb b 0x0A) n (suc n)) s t p

plain_back : (s : List ℕ) (end : ℕ) → ((k : ℕ) → end ≤ k → k < length s → begins_four (get_or s k 0) ≡ false) → Plain (drop end s)
plain_back [] zero none = tt
plain_back [] (suc end) none = tt
plain_back (b ∷ s) zero none = (none 0 (omega arith) (omega arith), plain_back s 0 (λ k l h. none (suc k) (omega arith) (omega arith)))
plain_back (b ∷ s) (suc end) none = plain_back s end (λ k l h. none (suc k) (omega arith) (omega arith))

-- what stands behind them recounts no position
pub recounted_front : (s : List ℕ) (end : ℕ) → ((k : ℕ) → end ≤ k → k < length s → begins_four (get_or s k 0) ≡ false) → (p : Position)
    → recounted (take end s) p ≡ recounted s p
unfolding recounted
recounted_front s end none p =
    let same : fours_in p.column (from_line p.line (take end s ++ drop end s)) ≡ fours_in p.column (from_line p.line (take end s)) =
    from_front p.column p.line (take end s) (drop end s) (plain_back s end none) in
    rw (← (rw (take-append-drop end s) at same))
