-- The empty path of `///<reference path='' />` stands at 0:19-0:21, with its marks, and not at 0:20-0:20, between them.
use Rattle.laws.proofs.Prelude.{◌≡◌, refl, ap, ◌∙◌, inr, List, [], ◌∷◌, ℕ, arith}
use mathlib.Core.Path.{subst}
use Rattle.laws.specs.Ascii.{ascii}
use Rattle.text.specs.Position.{step, walk, position_of}
use Rattle.sheet.specs.{declared.fields.Span.Span, Comments.slice, Sheet.Sheet}
use Rattle.report.{specs.ModuleInfo.SpecifierWithRange, specs.ModuleInfo.path, specs.Stands.InMarks, specs.Stands.StandsAt, proofs.RangesApart.range_at}
use Rattle.pragmas.specs.{Readings.place_in, Texts.ReferenceShown}

abbrev source : List ℕ
source = ascii "///<reference path='' />"

-- the empty text, from one column of the first line to another
abbrev empty : ℕ → ℕ → SpecifierWithRange
empty from to = record { text = []; range = record { start = record { line = 0; column = from }; end = record { line = 0; column = to } } }

pub with_marks : StandsAt InMarks source (empty 19 21) (record { start = 19; end = 21 })
unfolding step walk position_of
with_marks = record {
  range = range_at (omega arith, refl) (omega arith, refl) refl;
  text = record { opening = 0x27; closing = 0x27; opens = inr refl; closes = inr refl; all = refl };
}

nowhere : (place : Span) → StandsAt InMarks source (empty 20 20) place → ⊥
unfolding step walk position_of
nowhere place s =
    let here = s.range.only (record { start = 20; end = 20 }) (omega arith, refl) (omega arith, refl) refl in
    let m = s.text in
    let none : [] ≡ m.opening ∷ (m.closing ∷ []) = ap (slice source) here ∙ m.all in
    let z : ◌≡◌ {A = ℕ} 0 1 = cc in
    omega arith

-- no sheet with this source may list it there
pub without_marks : (t : Sheet) → t.source ≡ source → ReferenceShown t (path (empty 20 20)) → ⊥
without_marks t e r = nowhere (place_in r.comment r.read.capture)
    (subst (λ (s : List ℕ). StandsAt InMarks s (empty 20 20) (place_in r.comment r.read.capture)) e r.stands)
