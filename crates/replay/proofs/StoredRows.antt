-- Rows of the list, and the counts of those that are left.
use Rattle.laws.proofs.Prelude.{◌≡◌, refl, ap, ◌∙◌, List, [], ◌∷◌, ℕ, zero, suc, ◌+◌, ◌≤◌, ◌<◌, arith, length, take, drop}
use Rattle.laws.specs.Decoded.{Decoded, ok, no, on_ok, and_then, return}
use Rattle.laws.proofs.Decoding.{on_ok_ok, on_ok_no}
use Rattle.std.specs.Int.{from_le_bytes, w32}
use Rattle.wire.specs.Fields.{byte}
use Rattle.sheet.specs.Sheet.{ending}
use Rattle.replay.specs.Stored.{Row, four_bytes, row, rows, stored_rows}
use Rattle.replay.specs.Compared.{ran_of, counted, counted_all, none_yet, tally_of}
use Rattle.replay.specs.declared.{Ran.Ran, Counts.Counts}
use Rattle.std.specs.Prelude.{Option, Some, None}

-- a number of four bytes, or too few
pub four_front : (s : List ℕ) → 4 ≤ length s → four_bytes s ≡ ok (from_le_bytes w32 (take 4 s)) (drop 4 s)
unfolding four_bytes byte
four_front [] h = absurd (omega arith)
four_front (a ∷ []) h = absurd (omega arith)
four_front (a ∷ b ∷ []) h = absurd (omega arith)
four_front (a ∷ b ∷ c ∷ []) h = absurd (omega arith)
four_front (a ∷ b ∷ c ∷ d ∷ s) h = ap (λ n. ok n s) (omega arith)

pub four_short : (s : List ℕ) → length s < 4 → four_bytes s ≡ no 2
unfolding four_bytes byte
four_short [] h = refl
four_short (a ∷ []) h = refl
four_short (a ∷ b ∷ []) h = refl
four_short (a ∷ b ∷ c ∷ []) h = refl
four_short (a ∷ b ∷ c ∷ d ∷ s) h = absurd (omega arith)

-- a byte, as it is split off
pub byte_first : (s : List ℕ) {b : ℕ} {t : List ℕ} → s ≡ b ∷ t → byte s ≡ ok b t
unfolding byte
byte_first s e = rw e

-- counts, and the rows that are left with nothing behind them
abbrev pub onward : ℕ → Counts → Decoded (List Row) → Option Counts
onward size k (ok l []) = Some (counted_all size k l)
onward size k (ok l (b ∷ s)) = None
onward size k (no r) = None

module _ (size : ℕ) where
  -- a list's tally, once the number of its rows is read
  pub tally_rows : (s : List ℕ) {n : ℕ} {t : List ℕ} → four_bytes s ≡ ok n t → tally_of size (stored_rows s) ≡ onward size none_yet (rows n t)
  unfolding stored_rows
  tally_rows s {n} {t} e = rw e (go (rows n t))
    where
      go : (x : Decoded (List Row)) → tally_of size (and_then x (λ l u. and_then (ending u) (λ a. return l))) ≡ onward size none_yet x
      go (ok l []) = refl
      go (ok l (b ∷ u)) = refl
      go (no r) = refl

  pub tally_short : (s : List ℕ) {r : ℕ} → four_bytes s ≡ no r → tally_of size (stored_rows s) ≡ None
  unfolding stored_rows
  tally_short s e = rw e

  module _ (k : Counts) where
    pub row_counted : (n less : ℕ) (s : List ℕ) {t : List ℕ} {ran : Ran} → n ≡ less + 1 → on_ok (ran_of size) (row s) ≡ ok ran t
        → onward size k (rows n s) ≡ onward size (counted k ran) (rows less t)
    unfolding rows
    row_counted n less s {t} {ran} more e =
        let one : n ≡ suc less = omega arith in
        let (r, read, told) = on_ok_ok (ran_of size) (row s) e in
        rw (one, read) (go r (rows less t) ∙ ap (λ q. onward size (counted k q) (rows less t)) told)
      where
        go : (r : Row) (x : Decoded (List Row)) → onward size k (and_then x (λ l. return (r ∷ l))) ≡ onward size (counted k (ran_of size r)) x
        go r (ok l []) = refl
        go r (ok l (b ∷ u)) = refl
        go r (no q) = refl

    pub row_missing : (n : ℕ) (s : List ℕ) {q : ℕ} → 0 < n → on_ok (ran_of size) (row s) ≡ no q → onward size k (rows n s) ≡ None
    unfolding rows
    row_missing zero s h e = absurd (omega arith)
    row_missing (suc n) s h e = rw (on_ok_no (ran_of size) (row s) e)

    pub rows_done : (n : ℕ) (s : List ℕ) → n ≤ 0 → length s ≡ 0 → onward size k (rows n s) ≡ Some k
    unfolding rows
    rows_done zero [] h e = refl
    rows_done zero (b ∷ s) h e = absurd (omega arith)
    rows_done (suc n) s h e = absurd (omega arith)

    pub bytes_left : (n : ℕ) (s : List ℕ) → n ≤ 0 → (length s ≡ 0 → ⊥) → onward size k (rows n s) ≡ None
    unfolding rows
    bytes_left zero [] h l = absurd (l refl)
    bytes_left zero (b ∷ s) h l = refl
    bytes_left (suc n) s h l = absurd (omega arith)

-- the rows of a list, from its count to its end
pub ruleset in_rows = (tally_rows, tally_short, row_counted, row_missing, rows_done, bytes_left)
