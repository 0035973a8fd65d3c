-- As many rows of a table as a limit lets there be.
use Rattle.laws.proofs.Prelude.{◌≡◌, sym, arith, List, ℕ, ◌≤◌, length, take, length-take-le}

pub first_rows : {R : Type 0} (table : List R) (n limit : ℕ) → n ≤ limit → limit ≤ length table → n ≡ length (take n table)
first_rows table n limit few room = sym (length-take-le n table (omega (arith, few, room)))
