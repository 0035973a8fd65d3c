-- The source map by ECMA-426: an answer that stands for `source_map_of` is right, whatever the bytes.
use Rattle.std.specs.Prelude.{Some, None, Ok, Err, option_map}
use Rattle.laws.proofs.Prelude.{◌≡◌, sym, ap, ◌∙◌, true, ◌↔◌, List, [], Option, ℕ, ◌+◌, ◌-◌, ◌<◌, arith, length, take, drop, drop-drop}
use Rattle.laws.{specs.Decoded.ok, specs.Decoded.no, proofs.Lists.part_part}
use Rattle.text.{specs.declared.utf8.Encoding.TheVariants.Utf8, specs.Position.characters, proofs.Columns.counted}
use Rattle.text.proofs.WellFormed.{well_formed_iff}
use Rattle.wire.specs.Refusals.{of_sheets, one_of}
use Rattle.analysis.specs.Place.{text_of}
use Rattle.sheet.specs.{Sheet.Sheet, Sheet.accept, Judge.judge}
use Rattle.sheet.proofs.Bodies.{placed_body}
use Rattle.sheet.specs.Lookups.{body_span, body}
use Rattle.sheet_codec.{specs.Limits.FieldsFit, proofs.Sheets.accepts_exactly}
use Rattle.sheet_codec.proofs.Refusals.{Decision, decided, judged_sheet, judged_refusal}
use Rattle.sheet_check.specs.code.Views.{FoundAt}
use Rattle.report.specs.ModuleInfo.{SpecifierWithRange}
use Rattle.pragmas.specs.declared.readings.Rule.TheVariants.{StandardSourceMap}
use Rattle.pragmas.specs.{Readings.specifier_in, Readings.last_of, Pragmas.end_comments}
use Rattle.pragmas.specs.SourceMap.{read_standard, standard_map_in, standard_map}
use Rattle.pragmas.specs.code.{Views.taken_by, Captured.Captured, Captured.CaptureIn, Captured.specifier_as}
use Rattle.pragmas.proofs.{SourceMap.standard_present, SourceMap.standard_shown, Counted.read_last}
use Rattle.wire.specs.{declared.refusals.Refusal.Refusal, Refusals.number_of}
use Rattle.module_info.specs.{Information.answer_of, code.Located.place_from}
use Rattle.module_info.specs.SourceMap.{MapOutcome, given, refused, source_map_of, map_of, map_as, TextInside, AnswerInside, MapRight, SourceMapRight}
use Rattle.module_info.proofs.Numbers.{refusal_number, number_refusal}

never : {o : Option SpecifierWithRange} {n : ℕ} → given o ≡ refused n → ⊥
never e = let z : ◌≡◌ {A = ℕ} 0 1 = cc in omega arith

map_right : (t : Sheet) → FieldsFit t → MapRight t (standard_map t)
map_right t within = record {
  exactly = standard_present t;
  shown = standard_shown t ((well_formed_iff Utf8 t.source).1 within.source.1) within.comments.1;
  columns = counted characters t.source within.source.1;
}

module _ (s : List ℕ) where
  -- what is asked of the bytes, by what they are
  of_none : s ≡ [] → source_map_of s ≡ given None
  unfolding source_map_of judge
  of_none e = rw e

  pub of_sheet : {t : Sheet} → accept s ≡ ok t [] → source_map_of s ≡ given (standard_map t)
  unfolding source_map_of
  of_sheet e = rw (judged_sheet s e)

  of_refusal : {r : ℕ} → 0 < length s → accept s ≡ no r → source_map_of s ≡ refused r
  unfolding source_map_of
  of_refusal some e = rw (judged_refusal s some e)

  as_reported : (number : ℕ) → (source_map_of s ≡ refused number) ↔ ((one_of of_sheets number ≡ true) × ((size : ℕ) → (answer_of s size).number ≡ number))
  as_reported number = (by (decided s), λ (among, same). let (some, e) = number_refusal s 0 (rw (same 0) among) in of_refusal some (rw (same 0) at e))
    where
      by : Decision s → source_map_of s ≡ refused number → (one_of of_sheets number ≡ true) × ((size : ℕ) → (answer_of s size).number ≡ number)
      by (Decision.empty f) e = absurd (never (sym (of_none f) ∙ e))
      by (Decision.accepted t f) e = absurd (never (sym (of_sheet f) ∙ e))
      by (Decision.refused r among some f) e =
          let both : refused r ≡ refused number = sym (of_refusal some f) ∙ e in
          let is : r ≡ number = cc in
          (rw is at among, λ size. refusal_number s size some f ∙ is)

  pub source_map_right : {answer : MapOutcome} → map_as s answer ≡ source_map_of s → AnswerInside s answer → SourceMapRight s answer
  source_map_right e inside = record {
    answer_is = e;
    inside = inside;
    empty = λ f. e ∙ of_none f;
    accepted = λ t h. (standard_map t, e ∙ of_sheet ((accepts_exactly s t).1 h), map_right t h.encodes.within.fields);
    refusals = λ number. rw e (as_reported number);
  }

  pub none_right : s ≡ [] → SourceMapRight s (Ok None)
  none_right e = source_map_right (sym (of_none e)) tt

  pub refusal_right : (r : Refusal) → 0 < length s → accept s ≡ no (number_of r) → SourceMapRight s (Err r)
  refusal_right r some e = source_map_right (sym (of_refusal some e)) tt

  -- ---- where the run stands

  -- the text of a reading of the source is a part of the sheet
  pub located_as : {base : ℕ} (t : Captured) → FoundAt s base t.source → CaptureIn t.source t.comment t.capture
      → (map_of s (Some (place_from base t)) ≡ Some (specifier_as t)) × TextInside s (Some (place_from base t))
  unfolding specifier_in
  located_as {base} t stands h =
      let source = t.source in
      let k = t.capture in
      let w = placed_body source t.comment h.placed in
      let i = h.inside in
      let inside = stands.inside in
      let b = (body_span t.comment).start in
      let size : base + b + k.to - (base + b + k.from) ≡ k.to - k.from = omega arith in
      let place : base + b + k.from ≡ base + (b + k.from) = omega arith in
      let in_source : text_of (body source t.comment) k ≡ take (k.to - k.from) (drop (b + k.from) source) =
      part_part (drop b source) ((body_span t.comment).end - b) k.from (k.to - k.from) (omega arith) ∙ rw drop-drop in
      let in_sheet : take (k.to - k.from) (drop (b + k.from) source) ≡ take (k.to - k.from) (drop (base + (b + k.from)) s) =
      ap (λ x. take (k.to - k.from) (drop (b + k.from) x)) (sym stands.there)
      ∙ part_part (drop base s) (base + length source - base) (b + k.from) (k.to - k.from) (omega arith) ∙ rw drop-drop in
      (rw (size, place, ← in_sheet, ← in_source), (omega arith, omega arith))

-- the last reading in the trailing group at the program's end is that of the sheet
pub map_read : (t : Sheet) → option_map specifier_as (last_of (taken_by StandardSourceMap t.source) (end_comments t)) ≡ standard_map t
unfolding read_standard standard_map_in
map_read t = read_last StandardSourceMap t.source (end_comments t)
