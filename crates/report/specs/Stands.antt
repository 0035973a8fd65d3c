-- Where a specifier stands in the source, and how its text is written there.
use Rattle.std.specs.Prelude.{◌≡◌, List, [], ◌∷◌, ◌++◌, ℕ}
use Rattle.text.specs.Bytes.{Mark}
use Rattle.sheet.specs.declared.fields.Span.{Span}
use Rattle.sheet.specs.Comments.{slice}
use Rattle.sheet.specs.Quotation.{Quotation}
use Rattle.report.specs.ModuleInfo.{SpecifierWithRange}
use Rattle.report.specs.Range.{RangeAt}

-- the bytes are the text alone
abbrev pub Bare : List ℕ → List ℕ → Type 0
Bare text bytes = bytes ≡ text

-- the bytes are the text between two marks, which may differ
pub record InMarks (text bytes : List ℕ) : Type 0 where
  pub opening : ℕ
  pub closing : ℕ
  pub opens : Mark opening
  pub closes : Mark closing
  pub all : bytes ≡ opening ∷ (text ++ (closing ∷ []))

-- the bytes are a quotation, whatever the text: a String may be written with escapes
abbrev pub InQuotation : List ℕ → List ℕ → Type 0
InQuotation text bytes = Quotation bytes

-- the specifier stands at this place: its two positions are those of this place only, and the bytes there are its text, so written
pub record StandsAt (Written : List ℕ → List ℕ → Type 0) (source : List ℕ) (x : SpecifierWithRange) (place : Span) : Type 0 where
  pub range : RangeAt source x.range place
  pub text : Written x.text (slice source place)
