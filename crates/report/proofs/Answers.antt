-- The end of a report: what is cleared behind it, and the answer for the bytes that were written.
use Rattle.laws.proofs.Prelude.{◌≡◌, refl, Bool, true, false, List, [], append-nil, ℕ, ◌-◌, zero-add, arith, leb, ltb, ltb-true, ltb-false, length, take}
use Rattle.laws.proofs.Prelude.{length-take-le, take_all}
use Rattle.report.specs.Buffer.{Buffer, holds, wrote}
use Rattle.report.specs.Answer.{cleared_from, accepted, fitted, answered}

module _ (out : List ℕ) (at : ℕ) where
  -- the bytes before the place are the report, the zeros behind it being cleared or being none
  pub accepted_at : record { number = 0; written = length (take at out); buffer = cleared_from at out } ≡ accepted (length out) (take at out)
  accepted_at = by_room (ltb at (length out)) refl
    where
      by_room : (t : Bool) → ltb at (length out) ≡ t
          → record { number = 0; written = length (take at out); buffer = cleared_from at out } ≡ accepted (length out) (take at out)
      by_room true e = rw (length-take-le at out (omega (arith, ltb-true at (length out) e)))
      by_room false e =
          let past : length out - at ≡ 0 = omega (arith, ltb-false at (length out) e) in
          let none : length out - length out ≡ 0 = omega arith in
          rw (take_all at out (omega (arith, ltb-false at (length out) e)), past, none, append-nil)

-- what stands in a buffer once all the bytes are written into it from its front on gives their answer
pub answered_fitted : {n size : ℕ} (bytes : List ℕ) {w : Buffer} → n ≡ size → w ≡ wrote (holds size []) bytes → answered n w ≡ fitted size bytes
unfolding wrote fitted
answered_fitted {n} {size} bytes e written = rw (written, e) (by_room (leb (length bytes) size) refl)
  where
    by_room : (t : Bool) → leb (length bytes) size ≡ t → answered size (wrote (holds size []) bytes) ≡ fitted size bytes
    by_room true h = rw (zero-add, h)
    by_room false h = rw (zero-add, h)
