-- A row stored behind those that are noted, or left out.
use Rattle.laws.proofs.Prelude.{◌≡◌, refl, Bool, true, false, cond, List, [], ◌∷◌, ℕ, suc, ◌+◌, ◌-◌, ◌≤◌, ◌<◌, arith, add-one, length, get_or, set, length-set}
use Rattle.laws.proofs.Prelude.{ltb, lt-ltb, le-ltb}
use Rattle.dep_entries.specs.code.Notes.{noted}

pub note_stored : (notes : List ℕ) (start number : ℕ) → get_or notes 0 0 + 1 < length notes - 1
    → set (set (set notes (get_or notes 0 0 + 1) start) (get_or notes 0 0 + 2) number) 0 (get_or notes 0 0 + 2) ≡ noted notes start number
unfolding noted
note_stored [] start number h = absurd (omega arith)
note_stored (count ∷ numbers) start number h =
    let two : count + 2 ≡ suc (count + 1) = omega arith in
    rw (lt-ltb (count + 1) (length numbers) (omega arith), two, add-one count)

pub note_left : (notes : List ℕ) (start number : ℕ) → length notes - 1 ≤ get_or notes 0 0 + 1 → notes ≡ noted notes start number
unfolding noted
note_left [] start number h = refl
note_left (count ∷ numbers) start number h = rw (le-ltb (count + 1) (length numbers) (omega arith))

-- there is as much room as before
pub noted_size : (notes : List ℕ) (start number : ℕ) → length (noted notes start number) ≡ length notes
unfolding noted
noted_size [] start number = refl
noted_size (count ∷ numbers) start number = by_room (ltb (count + 1) (length numbers))
  where
    by_room : (t : Bool) →
        length (cond t ((count + 2) ∷ set (set numbers count start) (count + 1) number) (count ∷ numbers)) ≡ length (count ∷ numbers)
    by_room true = rw (length-set, length-set) refl
    by_room false = refl
