-- Scan length and scan sum from one byte on, by those from the next byte on.
use Rattle.laws.proofs.Prelude.{◌≡◌, refl, sym, ap, true, false, List, [], ◌∷◌, ◌++◌, ℕ, suc, ◌+◌, ◌-◌, ◌≤◌, ◌<◌, code, arith, zero-add, add-one}
use Rattle.laws.proofs.Prelude.{length, get_or, drop}
use Rattle.laws.proofs.Prelude.{drop-cons, eq-eqb, ne_eqb}
use lib.Seq.{drop-length}
use native.Mathlib.Numerals.{unary_clauses}
use native.Mathlib.Nat.{add_comm, zero-min, min-zero, suc-min-suc}
use Rattle.laws.specs.Ascii.{ascii}
use Rattle.text.specs.Bytes.{begins}
use Rattle.std.proofs.lemmas.{Bool.false_from_ne_true, Slice.Eq.HasBytesAt}
use Rattle.text.proofs.Words.{begins_sound}
use Rattle.scan.specs.Scan.{up_to, scan_length, scan_sum}

pub ends : scan_length [] ≡ 0
unfolding scan_length up_to
ends = refl

pub none : scan_sum [] ≡ 0
unfolding scan_sum
none = refl

pub within : (s : List ℕ) → scan_length s ≤ length s
unfolding scan_length
within s = omega arith

module _ (x : ℕ) (s : List ℕ) where
  close : x ≡ code "}" → scan_length (x ∷ s) ≡ 0
  unfolding scan_length up_to begins
  close e = rw (eq-eqb _ _ e, zero-min)

  word : begins (ascii "import") (x ∷ s) ≡ true → scan_length (x ∷ s) ≡ 0
  unfolding scan_length up_to
  word e = rw (e, zero-min, min-zero)

  pub other : (x ≡ code "}" → ⊥) → begins (ascii "import") (x ∷ s) ≡ false → scan_length (x ∷ s) ≡ suc (scan_length s)
  unfolding scan_length up_to begins
  other n e = rw (e, ne_eqb x (code "}") n) (rw (suc-min-suc, suc-min-suc))

  pub brace : x ≡ code "{" → scan_sum (x ∷ s) ≡ scan_sum s + scan_length s
  unfolding scan_sum
  brace e = rw (eq-eqb _ _ e) (add_comm _ _)

  pub no_brace : (x ≡ code "{" → ⊥) → scan_sum (x ∷ s) ≡ scan_sum s
  unfolding scan_sum
  no_brace n = rw (ne_eqb _ _ n, zero-add)

-- the scan length of what is left of a body, by that from the next byte on
pub at_close : (s : List ℕ) → 0 < length s → get_or s 0 0 ≡ code "}" → 0 ≡ scan_length s
at_close [] h e = absurd (omega arith)
at_close (x ∷ s) h e = sym (close x s e)

pub at_import : (s : List ℕ) → 0 < length s → begins (ascii "import") s ≡ true → 0 ≡ scan_length s
at_import [] h e = absurd (omega arith)
at_import (x ∷ s) h e = sym (word x s e)

pub at_other : (s : List ℕ) → 0 < length s → (get_or s 0 0 ≡ code "}" → ⊥) → begins (ascii "import") s ≡ false
    → scan_length (drop 1 s) + 1 ≡ scan_length s
at_other [] h n e = absurd (omega arith)
at_other (x ∷ s) h n e = rw add-one (sym (other x s n e))

-- a text begins with `import` just where its first six bytes are the word's
begins_at : (w s : List ℕ) (i : ℕ) → i + length w ≤ length s → HasBytesAt s i w → begins w (drop i s) ≡ true
unfolding begins
begins_at [] s i h r = refl
begins_at (y ∷ w) s i h (e, r) =
    let l : i < length s = omega arith in
    rw (drop-cons s i 0 l, eq-eqb _ _ e) (begins_at w s (suc i) (omega arith) r)

pub at_word : (s : List ℕ) → 5 < length s → get_or s 0 0 ≡ code "i" → get_or s 1 0 ≡ code "m" → get_or s 2 0 ≡ code "p" → get_or s 3 0 ≡ code "o"
    → get_or s 4 0 ≡ code "r" → get_or s 5 0 ≡ code "t" → 0 ≡ scan_length s
at_word s h a b c d e f = at_import s (omega arith) (begins_at (ascii "import") s 0 h (a, (b, (c, (d, (e, (f, tt)))))))

pub at_no_word : (s : List ℕ) → 0 < length s → (get_or s 0 0 ≡ code "}" → ⊥) → (5 < length s → get_or s 0 0 ≡ code "i" → get_or s 1 0 ≡ code "m"
    → get_or s 2 0 ≡ code "p" → get_or s 3 0 ≡ code "o" → get_or s 4 0 ≡ code "r" → get_or s 5 0 ≡ code "t" → ⊥) → scan_length (drop 1 s) + 1 ≡ scan_length s
at_no_word s h n m =
    at_other s h n (false_from_ne_true _ λ e.
    let is : s ≡ ascii "import" ++ drop 6 s = begins_sound (ascii "import") s e in
    let letter : (i : ℕ) → get_or s i 0 ≡ get_or (ascii "import" ++ drop 6 s) i 0 = λ i. ap (λ t. get_or t i 0) is in
    m (omega (arith, ap length is)) (letter 0) (letter 1) (letter 2) (letter 3) (letter 4) (letter 5))

pub ruleset lengths = (within, at_close, at_word, at_no_word)

-- at first nothing is counted
pub at_end : (s : List ℕ) → (0 ≡ scan_length (drop (length s - 0) s)) × (0 ≡ scan_sum (drop (length s - 0) s))
at_end s = simp unary_clauses (rw drop-length (sym ends, sym none))

-- the scan sum from one place of a body on, by what the place behind it has
module _ (s : List ℕ) (i : ℕ) (some : 0 < i) (h : i ≤ length s) where
  split : drop (i - 1) s ≡ get_or s (i - 1) 0 ∷ drop i s
  split =
      let l : i - 1 < length s = omega arith in
      let e : suc (i - 1) ≡ i = omega arith in
      rw e at (drop-cons s (i - 1) 0 l)

  pub back_brace : get_or s (i - 1) 0 ≡ code "{" → scan_sum (drop i s) + scan_length (drop i s) ≡ scan_sum (drop (i - 1) s)
  back_brace e = rw split (sym (brace _ _ e))

  pub back_other : (get_or s (i - 1) 0 ≡ code "{" → ⊥) → scan_sum (drop i s) ≡ scan_sum (drop (i - 1) s)
  back_other n = rw split (sym (no_brace _ _ n))
