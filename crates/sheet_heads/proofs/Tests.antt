-- What the tests of texts say, by the first byte and the last.
use Rattle.laws.proofs.Prelude.{◌≡◌, sym, false, List, ℕ, ◌-◌, ◌≤◌, ◌<◌, eqb, length, get_or, lt-leb}
use Rattle.sheet.specs.{Comments.enclosed, Quotation.looks_quoted}
use Rattle.sheet.proofs.Quotations.{double_mark, single_mark, no_mark}

module _ (x : List ℕ) where
  pub short_looks : length x < 2 → looks_quoted x ≡ false
  unfolding looks_quoted enclosed
  short_looks h = rw (lt-leb _ _ h)

  pub double_looks : 2 ≤ length x → get_or x 0 0 ≡ 0x22 → looks_quoted x ≡ eqb (get_or x (length x - 1) 0) 0x22
  double_looks h e = sym (double_mark x h e)

  pub single_looks : 2 ≤ length x → get_or x 0 0 ≡ 0x27 → looks_quoted x ≡ eqb (get_or x (length x - 1) 0) 0x27
  single_looks h e = sym (single_mark x h e)

  pub other_looks : 2 ≤ length x → (get_or x 0 0 ≡ 0x22 → ⊥) → (get_or x 0 0 ≡ 0x27 → ⊥) → looks_quoted x ≡ false
  other_looks h n m = sym (no_mark x h n m)

-- a text too short, one in marks of either kind, and any other
pub ruleset looks = (short_looks, double_looks, single_looks, other_looks)
