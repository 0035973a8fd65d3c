-- The import that is reported of a reading, and where it stands in the source.
use Rattle.std.specs.Prelude.{Some}
use Rattle.laws.proofs.Prelude.{◌≡◌, refl, ap, sym, ◌∙◌, true, List, [], ◌∷◌, ◌++◌, append_assoc, ℕ, ◌+◌, ◌-◌, ◌≤◌, arith, length, take, drop}
use Rattle.laws.proofs.Prelude.{length-append, length-drop}
use lib.Seq.{take_at, append_snoc}
use Rattle.text.specs.{declared.utf8.Encoding.TheVariants.Utf8, Utf8.formed}
use Rattle.analysis.specs.Mode.{Mode}
use Rattle.jsdoc.specs.Grammar.{Quote, Reading, From}
use Rattle.jsdoc.proofs.{Texts.quote_complete, Texts.quote_shorter, ReadingPlace.place_quote, ReadingPlace.quote_boundaries}
use Rattle.sheet.{specs.declared.comments.Comment.Comment, specs.Lookups.body_span, specs.Lookups.body, proofs.Bodies.BodyWithin, proofs.Bodies.body_then}
use Rattle.report.{specs.ModuleInfo.JsDocImportInfo, specs.Range.range_of, proofs.RangesApart.range_at}
use Rattle.jsdoc_list.specs.{Imports.import_at, Demand.ImportAt}

-- a quote is one whatever follows it
quote_then : {k s t : List ℕ} (u : List ℕ) → Quote k s t → Quote k (s ++ u) (t ++ u)
quote_then {k} {t} u r = record {
  mark = r.mark;
  r1 = r.r1 ++ u;
  of_mark = r.of_mark;
  first = rw r.first;
  rest = (r.rest.0, rw r.rest.1 (append_assoc k (r.mark ∷ t) u));
}

-- and so are its own n bytes
quote_alone : {k s t : List ℕ} (n : ℕ) → n + length t ≡ length s → Quote k s t → Quote k (take n s) []
quote_alone {k} {s} {t} n e r =
    let quote = r.mark ∷ (k ++ (r.mark ∷ [])) in
    let whole : s ≡ quote ++ t = r.first ∙ ap (r.mark ∷◌) (r.rest.1 ∙ sym (append_snoc k r.mark t)) in
    let size : length quote ≡ n = omega (arith, ap length whole, length-append quote t) in
    record { mark = r.mark; r1 = k ++ (r.mark ∷ []); of_mark = r.of_mark; first = rw whole (take_at quote t n size); rest = (r.rest.0, refl) }

-- an import is reported from q on, and stands from there to e
pub record Standing (source : List ℕ) (q e : ℕ) (mode : Mode) : Type 0 where
  pub import : JsDocImportInfo
  pub is : import_at source q mode ≡ Some import
  pub stands : ImportAt source import (record { start = q; end = e })
  pub mode_is : import.mode ≡ mode

-- the import of a text, at the range from q to e
abbrev pub import_of : List ℕ → ℕ → ℕ → List ℕ → Mode → JsDocImportInfo
import_of source q e text mode = record { specifier = record { text = text; range = range_of source (record { start = q; end = e }) }; mode = mode }

-- at a quote from q to e that is reported
quote_import : (source : List ℕ) (q e : ℕ) (mode : Mode) {k : List ℕ} → e ≤ length source → Quote k (drop q source) (drop e source)
    → import_at source q mode ≡ Some (import_of source q e k mode)
unfolding import_at
quote_import source q e mode l r =
    let past : length source - length (drop e source) ≡ e = omega (arith, length-drop e source) in
    rw (quote_complete r, past)

-- a reading of a body is one of its comment's source
module _ (source : List ℕ) (c : Comment) (w : BodyWithin source c) {b : List ℕ} (is : body source c ≡ b) {k j : ℕ} {mode : Mode}
    (r : From Reading b k j mode) where
  reading_ends : (body_span c).start + r.end ≤ length source
  reading_ends = omega (arith, r.inside, ap length is, w.long, w.order, w.end, w.source_end_lem)

  pub reading_starts : j ≤ r.end
  reading_starts =
      let (x, t) = place_quote r.reads in
      omega (arith, quote_shorter t, length-drop j b, length-drop r.end b, r.inside)

  reading_quote : Quote (place_quote r.reads).0 (drop ((body_span c).start + j) source) (drop ((body_span c).start + r.end) source)
  reading_quote =
      let end : r.end ≤ length (body source c) = rw is r.inside in
      let begin : j ≤ length (body source c) = omega (arith, reading_starts) in
      rw (body_then source c w j begin, body_then source c w r.end end, is) (quote_then _ (place_quote r.reads).1)

  -- what is reported of it
  pub reading_import : import_at source ((body_span c).start + j) mode
      ≡ Some (import_of source ((body_span c).start + j) ((body_span c).start + r.end) (place_quote r.reads).0 mode)
  reading_import = quote_import source ((body_span c).start + j) ((body_span c).start + r.end) mode reading_ends reading_quote

module _ {source : List ℕ} (f : formed Utf8 0 source ≡ true) where
  quote_stands : (q e : ℕ) (mode : Mode) {k : List ℕ} → e ≤ length source → Quote k (drop q source) (drop e source) → Standing source q e mode
  quote_stands q e mode {k} l r =
      let bounds = quote_boundaries source f q e l r in
      let size : e - q + length (drop e source) ≡ length (drop q source) = omega (arith, length-drop e source, length-drop q source, quote_shorter r) in
      record {
        import = import_of source q e k mode;
        is = quote_import source q e mode l r;
        stands = record { range = range_at bounds.0 bounds.1 refl; text = quote_alone (e - q) size r };
        mode_is = refl;
      }

  -- the import of a reading in a comment
  pub reading_stands : (c : Comment) → BodyWithin source c → {k j : ℕ} {mode : Mode} (r : From Reading (body source c) k j mode)
      → Standing source ((body_span c).start + j) ((body_span c).start + r.end) mode
  reading_stands c w {j} {mode} r =
      quote_stands ((body_span c).start + j) ((body_span c).start + r.end) mode (reading_ends source c w refl r) (reading_quote source c w refl r)
