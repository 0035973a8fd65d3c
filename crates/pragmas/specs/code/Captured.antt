-- A comment of a source, with what is captured in its body.
use Rattle.std.specs.Prelude.{List, ℕ, length}
use Rattle.analysis.specs.declared.Capture.{Capture}
use Rattle.analysis.specs.Place.{Inside}
use Rattle.sheet.specs.declared.fields.Span.{Span}
use Rattle.sheet.specs.declared.comments.Comment.{Comment}
use Rattle.sheet.specs.Fit.{Placed}
use Rattle.sheet.specs.Lookups.{body}
use Rattle.report.specs.ModuleInfo.{SpecifierWithRange}
use Rattle.pragmas.specs.Readings.{place_in, specifier_in}

pub record Captured : Type 0 where
  pub source : List ℕ
  pub comment : Comment
  pub capture : Capture

-- the capture and its marks lie in the body of a comment of the source
pub record CaptureIn (source : List ℕ) (c : Comment) (k : Capture) : Type 0 where
  pub placed : Placed source c
  pub inside : Inside k (length (body source c))

-- its place in the source, with its marks, and the specifier that it gives
abbrev pub place_as : Captured → Span
place_as t = place_in t.comment t.capture

abbrev pub specifier_as : Captured → SpecifierWithRange
specifier_as t = specifier_in t.source t.comment t.capture
