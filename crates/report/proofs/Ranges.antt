-- The ranges of a source's spans can be written.
use Rattle.laws.proofs.Prelude.{◌≡◌, refl, sym, ◌∙◌, List, ℕ, ◌≤◌, arith, length, take, take_all}
use native.Mathlib.Decide.{dec_le}
use lib.Seq.{take-length}
use Rattle.text.{specs.Position.characters, specs.Position.position_of, proofs.Positions.bounded}
use Rattle.wire.specs.Number.{largest}
use Rattle.sheet.specs.declared.fields.Span.{Span}
use Rattle.report.specs.{Range.range_of, Valid.ValidRange}

-- neither the line nor the column is past the source's length, wherever the place is
position_bounded : (s : List ℕ) (at : ℕ) → ((position_of characters s at).line ≤ length s) × ((position_of characters s at).column ≤ length s)
unfolding position_of
position_bounded s at = go (dec_le at (length s))
  where
    go : Dec (at ≤ length s) → ((position_of characters s at).line ≤ length s) × ((position_of characters s at).column ≤ length s)
    go (yes h) = let b = bounded s at h refl in omega arith
    go (no h) =
        let e : take at s ≡ take (length s) s = take_all at s (omega arith) ∙ sym (take-length s) in
        rw e (bounded s (length s) (omega arith) refl)

pub range_valid : (source : List ℕ) (sp : Span) → length source ≤ largest → ValidRange (range_of source sp)
range_valid source sp h =
    let (a, b) = position_bounded source sp.start in
    let (c, d) = position_bounded source sp.end in
    record { start = record { line = omega arith; column = omega arith }; end = record { line = omega arith; column = omega arith } }
