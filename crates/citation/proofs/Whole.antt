-- All that was written, where the buffer is long enough.
use Rattle.laws.proofs.Prelude.{◌≡◌, refl, ap, ◌∙◌, List, [], ◌∷◌, Option, ℕ, zero, suc, ◌+◌, ◌≤◌, arith, length, take, length-take, le-leb}
use Rattle.std.specs.Prelude.{None, Some}
use lib.Seq.{take-length}
use Rattle.report.specs.declared.writer.Writer.{Writer}
use Rattle.report.specs.Buffer.{holds, wrote, buffer_as, standing, Wrote}
use Rattle.report.proofs.Buffers.{wrote_buffer}

take_taken : (n : ℕ) (l : List ℕ) → take (length (take n l)) l ≡ take n l
take_taken zero l = refl
take_taken (suc n) [] = refl
take_taken (suc n) (a ∷ l) = ap (a ∷◌) (take_taken n l)

standing_taken : (out : List ℕ) (at : Option ℕ) → take (length (standing out at)) out ≡ standing out at
standing_taken out None = take-length out
standing_taken out (Some at) = take_taken at out

-- from the front of a buffer with room for the bytes: they begin it, and the place is behind them
begins : (before after : Writer) (bs : List ℕ) → Wrote before after bs → before.at ≡ Some 0 → length bs ≤ length before.out.now
    → standing after.out.now after.at ≡ bs
unfolding wrote
begins before after bs h start room =
    by_place after.at (rw start at (wrote_buffer before after bs h) ∙ rw (le-leb (0 + length bs) (length before.out.now) (omega arith)))
  where
    by_place : (at : Option ℕ) → buffer_as after.out.now at ≡ holds (length before.out.now) bs → standing after.out.now at ≡ bs
    by_place None e = cc
    by_place (Some at) e = cc

pub all_written : (before after : Writer) {bs out : List ℕ} {r : ℕ} → Wrote before after bs → before.at ≡ Some 0 → length bs ≤ length before.out.now
    → out ≡ after.out.now → r ≡ length (standing after.out.now after.at) → (r ≡ length bs) × (take r out ≡ bs)
all_written before after {bs} h start room same e =
    let all = begins before after bs h start room in
    (e ∙ ap length all, rw (same, e, standing_taken after.out.now after.at) all)

-- what stands in a buffer is no longer than it
pub all_within : (after : Writer) {out : List ℕ} {r : ℕ} → out ≡ after.out.now → r ≡ length (standing after.out.now after.at) → r ≤ length out
all_within after {out} {r} same e = by_place after.at e
  where
    by_place : (at : Option ℕ) → r ≡ length (standing after.out.now at) → r ≤ length out
    by_place None e = omega (arith, ap length same)
    by_place (Some at) e = omega (arith, ap length same, length-take at after.out.now)
