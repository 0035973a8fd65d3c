-- The JSDoc imports of a sheet can be written, and there are no more of them than bytes of its source.
use Rattle.std.specs.Prelude.{Some, None}
use Rattle.laws.proofs.Prelude.{ap, ◌∙◌, Bool, true, false, cond, List, [], ◌∷◌, Option, ℕ, zero, suc, ◌≤◌, arith, length}
use Rattle.laws.{specs.Codec.All, proofs.Lists.of_members}
use Rattle.text.specs.{declared.utf8.Encoding.TheVariants.Utf8, WellFormed.WellFormed}
use Rattle.wire.specs.Fields.{value_of}
use Rattle.jsdoc.specs.Grammar.{Quote}
use Rattle.sheet.specs.{Limits.source_limit, declared.names.MediaType.MediaType, declared.comments.Comment.Comment, Fit.Fit, Media.is_java_script, Sheet.Sheet}
use Rattle.report.{specs.ModuleInfo.JsDocImportInfo, specs.Decode.modes, specs.Stands.InMarks, proofs.Stands.Good, proofs.Stands.marks_good}
use Rattle.pragmas.specs.Readings.{listed}
use Rattle.jsdoc_list.specs.Imports.{ticks_of, import_at, imports_from, jsdoc_imports}
use Rattle.jsdoc_list.specs.Demand.{JsDocRight}
use Rattle.jsdoc_list.proofs.Ticking.{ticks_of_lem}

-- a Quote is the text between two marks
in_marks : {k s : List ℕ} → Quote k s [] → InMarks k s
in_marks q =
    record { opening = q.mark; closing = q.mark; opens = q.of_mark; closes = q.of_mark; all = q.first ∙ ap (λ (r : List ℕ). q.mark ∷ r) q.rest.1 }

pub imports_good : (t : Sheet) → length t.source ≤ source_limit → WellFormed Utf8 t.source → {l : List JsDocImportInfo} →
    JsDocRight t.media t.source t.comments l
    → All (λ i. Good i.specifier) l
imports_good t short w {l} right =
    of_members _ l λ i m.
    let (place, stands) = right.placed i m in
    marks_good short w (record { range = stands.range; text = in_marks stands.text })

from_few : (source : List ℕ) (q : ℕ) (ticks : List ℕ) → length (imports_from source q ticks) ≤ length ticks
unfolding imports_from
from_few source q [] = omega arith
from_few source q (zero ∷ ticks) = omega (arith, from_few source (suc q) ticks)
from_few source q (suc number ∷ ticks) = go (import_at source q (value_of modes number)) (from_few source (suc q) ticks)
  where
    go : (o : Option JsDocImportInfo) → length (imports_from source (suc q) ticks) ≤ length ticks →
        length (listed o (imports_from source (suc q) ticks)) ≤ suc (length ticks)
    go None h = omega arith
    go (Some i) h = omega arith

pub imports_few : (media : MediaType) {source : List ℕ} {cs : List Comment} → Fit source cs → length (jsdoc_imports media source cs) ≤ length source
unfolding jsdoc_imports
imports_few media {source} {cs} f = go (is_java_script media)
  where
    go : (b : Bool) → length (cond b (imports_from source 0 (ticks_of source cs)) []) ≤ length source
    go true = omega (arith, from_few source 0 (ticks_of source cs), (ticks_of_lem cs f).same)
    go false = omega arith
