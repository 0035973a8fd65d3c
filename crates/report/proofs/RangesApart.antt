-- No two places of a source have one range.
use Rattle.laws.proofs.Prelude.{◌≡◌, sym, ap, ◌∙◌, List, ℕ, arith}
use Rattle.text.{specs.Position.Boundary, proofs.PositionsApart.one_place}
use Rattle.sheet.specs.declared.fields.Span.{Span}
use Rattle.report.specs.{ModuleInfo.PositionRange, Range.range_of, Range.RangeAt}

one_span : (source : List ℕ) (s t : Span) → Boundary source s.start → Boundary source s.end → Boundary source t.start → Boundary source t.end
    → range_of source s ≡ range_of source t → s ≡ t
one_span source s t a b c d e =
    let i = one_place (λ x. omega arith) source s.start t.start a c (ap (λ (r : PositionRange). r.start) e) in
    let j = one_place (λ x. omega arith) source s.end t.end b d (ap (λ (r : PositionRange). r.end) e) in
    let same : ◌≡◌ {A = Span} (record { start = s.start; end = s.end }) (record { start = t.start; end = t.end }) = rw (i, j) in
    same

pub range_at : {source : List ℕ} {range : PositionRange} {place : Span} → Boundary source place.start → Boundary source place.end →
    range ≡ range_of source place
    → RangeAt source range place
range_at {source} {place = place} a b e = record { start = a; end = b; is = e; only = λ sp c d f. one_span source sp place c d a b (sym f ∙ e) }
