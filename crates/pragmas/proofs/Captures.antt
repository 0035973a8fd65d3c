-- Where a capture in the body of a comment stands in the source.
use Rattle.laws.proofs.Prelude.{List, ℕ, arith}
use Rattle.analysis.specs.{declared.Capture.Capture, Place.place_of}
use Rattle.sheet.{specs.declared.comments.Comment.Comment, proofs.Bodies.placed_body}
use Rattle.report.specs.Range.{InSource}
use Rattle.pragmas.specs.{Readings.place_in, code.Captured.CaptureIn}

-- the places of the body are places of the source
pub capture_within : (source : List ℕ) (c : Comment) (k : Capture) → CaptureIn source c k → InSource source (place_in c k)
unfolding place_in place_of
capture_within source c k h =
    let w = placed_body source c h.placed in
    let inside = h.inside in
    record { start = omega arith; end = omega arith }
