-- A specifier that stands in a well-formed source can be written, and its text is well-formed.
use Rattle.laws.proofs.Prelude.{◌≡◌, refl, ap, ◌∙◌, Bool, true, false, ⊎_elim, List, [], ◌∷◌, ℕ, suc, ◌+◌, ◌-◌, ◌≤◌, ◌<◌, arith, ltb, length, get_or}
use Rattle.laws.proofs.Prelude.{length-append, length-take, length-drop, take-append_seam, ltb-true, ltb-false}
use lib.Seq.{get_or_at}
use Rattle.text.specs.{declared.utf8.Encoding.TheVariants.Utf8, Bytes.Mark, Bytes.part, Utf8.formed, WellFormed.WellFormed}
use Rattle.text.proofs.{Cuts.ascii_between, Cuts.part_formed, WellFormed.well_formed_iff}
use Rattle.sheet.specs.{Limits.source_limit, declared.fields.Span.Span, Comments.slice}
use Rattle.report.specs.{ModuleInfo.PositionRange, ModuleInfo.SpecifierWithRange, Range.RangeAt, Valid.ValidSpecifier}
use Rattle.report.specs.Stands.{Bare, InMarks, StandsAt}
use Rattle.report.proofs.Ranges.{range_valid}

-- a specifier that can be written, with a well-formed text of at most 32,768 bytes
pub record Good (x : SpecifierWithRange) : Type 0 where
  pub valid : ValidSpecifier x
  pub text : (length x.text ≤ source_limit) × WellFormed Utf8 x.text

-- what stands between two marks is well-formed if all of it is
between_marks : {x bytes : List ℕ} → formed Utf8 0 bytes ≡ true → InMarks x bytes → (length x ≤ length bytes) × (formed Utf8 0 x ≡ true)
between_marks {x} {bytes} f m =
    let n = length x + 1 in
    let long : length bytes ≡ suc n = ap length m.all ∙ simp length-append in
    let first : get_or bytes 0 0 ≡ m.opening = rw m.all in
    let last : get_or bytes n 0 ≡ m.closing = rw m.all (get_or_at (m.opening ∷ x) m.closing [] 0 n (omega arith)) in
    let less : n - 1 ≡ length x = omega arith in
    let inner : part bytes 1 n ≡ x = rw (m.all, less) (take-append_seam x (m.closing ∷ [])) in
    let front = (ascii_between bytes f 0 (omega arith) (rw first (ascii m.opens))).1 in
    let back = (ascii_between bytes f n (omega arith) (rw last (ascii m.closes))).0 in
    (omega arith, rw inner at (part_formed bytes f 1 n (omega arith) front back))
  where
    ascii : {b : ℕ} → Mark b → b < 0x80
    ascii m = ⊎_elim (λ e. omega arith) (λ e. omega arith) m

module _ {source : List ℕ} (short : length source ≤ source_limit) (w : WellFormed Utf8 source) where
  -- the bytes between two boundaries
  slice_formed : {r : PositionRange} {place : Span} → RangeAt source r place →
      (length (slice source place) ≤ length source) × (formed Utf8 0 (slice source place) ≡ true)
  unfolding formed
  slice_formed {place = place} r = (simp (length-take, length-drop) (omega arith), go (ltb place.end place.start) refl)
    where
      go : (b : Bool) → ltb place.end place.start ≡ b → formed Utf8 0 (slice source place) ≡ true
      go true e = let none : place.end - place.start ≡ 0 = omega (arith, ltb-true place.end place.start e) in rw none
      go false e = part_formed source ((well_formed_iff Utf8 source).1 w) place.start place.end (ltb-false place.end place.start e) r.start
          r.end

  good : {x : SpecifierWithRange} {place : Span} → RangeAt source x.range place → (length x.text ≤ length source) × (formed Utf8 0 x.text ≡ true) →
      Good x
  good {x} {place} r (l, f) = record {
    valid = record { text = omega arith; range = rw r.is (range_valid source place (omega arith)) };
    text = (omega arith, (well_formed_iff Utf8 x.text).0 f);
  }

  pub bare_good : {x : SpecifierWithRange} {place : Span} → StandsAt Bare source x place → Good x
  bare_good s = good s.range (rw (← s.text) (slice_formed s.range))

  pub marks_good : {x : SpecifierWithRange} {place : Span} → StandsAt InMarks source x place → Good x
  marks_good s =
      let (l, f) = slice_formed s.range in
      let (n, g) = between_marks f s.text in
      good s.range (omega arith, g)
