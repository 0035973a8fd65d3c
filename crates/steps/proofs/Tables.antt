-- The ten tables stand for the ten rows; what a table answers.
use Rattle.std.specs.Prelude.{Option, Some, None, Ok, Err}
use Rattle.std.specs.Result.{result_unwrap_or}
use Rattle.laws.proofs.Prelude.{◌≡◌, refl, sym, ap, ◌∙◌, List, ℕ, ◌≤◌, ◌<◌, length, le-ltb, lt-ltb}
use Rattle.analysis.specs.{declared.Capture.Capture, Prefers.Finds}
use Rattle.analysis.specs.Row.{Row, find}
use Rattle.analysis.proofs.Preference.{preferred_found, finds}
use Rattle.steps.specs.declared.{Pattern.Pattern, table.Ill.Ill, table.Ill.TheVariants.TooLong}
use Rattle.steps.specs.declared.Pattern.TheVariants.{TripleSlash, Path, Types, ResolutionMode, JsxImportSource, JsxImportSourceTypes}
use Rattle.steps.specs.declared.Pattern.TheVariants.{SourceMappingUrl, TsSelfTypes, TsTypes, DenoTypes}
use Rattle.steps.specs.Table.{Decoded, row, ill, class_of, argued_by, step_of, row_by, row_in, decode}
use Rattle.steps.specs.Answers.{Answer, verdict_of, FindsRow, FindsTable, Runs, Stepped}
use Rattle.steps.specs.{Written.written, Patterns.table_of, Patterns.row_of}
use Rattle.steps.proofs.Written.{stands_for}

pub tables : (p : Pattern) → decode (table_of p) ≡ row (row_of p)
unfolding table_of decode row_by step_of argued_by class_of
tables TripleSlash = refl
tables Path = refl
tables Types = refl
tables ResolutionMode = refl
tables JsxImportSource = refl
tables JsxImportSourceTypes = refl
tables SourceMappingUrl = refl
tables TsSelfTypes = refl
tables TsTypes = refl
tables DenoTypes = refl

-- a table that is not too long is read
stands_decoded : (t : List ℕ) → length t ≤ 255 → decode t ≡ row_in t
unfolding decode
stands_decoded t h = rw (le-ltb 255 (length t) h)

-- what is found of a row is one only
pub found_so : (q : Row) (s : List ℕ) (x : Option Capture) → Finds q s x → x ≡ find q s
found_so q s (Some k) f = sym (preferred_found q s ((f.some k).0 refl))
found_so q s None f = sym ((finds q s).none.1 (f.none.0 refl))

-- a row, written as a table
pub stepped : (t s : List ℕ) {a : Answer} → Runs (decode t) s a → Stepped t s a
stepped t s {a} r = record { tables = r; rows = λ q e h. rw (as_row q e h) at r }
  where
    as_row : (q : Row) → t ≡ written q → length t ≤ 255 → decode t ≡ row q
    as_row q e h = stands_decoded t h ∙ ap (λ (u : List ℕ). row_in u) e ∙ stands_for q

pub too_long : (t s : List ℕ) → 255 < length t → Stepped t s (Err TooLong)
unfolding decode
too_long t s h = stepped t s (rw (lt-ltb 255 (length t) h) refl)

module _ (t s : List ℕ) (h : length t ≤ 255) where
  pub refuses : {x : Ill} → Err x ≡ verdict_of (row_in t) → Stepped t s (Err x)
  refuses {x} e = stepped t s (rw (stands_decoded t h) (go (row_in t) e))
    where
      go : (d : Decoded) → Err x ≡ verdict_of d → Runs d s (Err x)
      go (row q) f = cc
      go (ill y) f = cc

  pub accepts : Ok tt ≡ verdict_of (row_in t) → {x : Option Capture} → FindsRow t s x → Stepped t s (Ok x)
  accepts e {x} f = stepped t s (rw (stands_decoded t h) (go (row_in t) refl e))
    where
      go : (d : Decoded) → row_in t ≡ d → Ok tt ≡ verdict_of d → Runs d s (Ok x)
      go (row q) i g = (x, refl, rw (f.is q i) (finds q s))
      go (ill y) i g = cc

-- a table of a row finds what the row does
pub finds_table : (t s : List ℕ) (a : Answer) → Stepped t s a → FindsTable t s (result_unwrap_or a None)
finds_table t s (Ok x) r = record {
  is = λ q e.
      let (y, same, f) = rw e at r.tables in
      let one : x ≡ y = cc in
      found_so q s x (rw one f);
}
finds_table t s (Err x) r = record { is = λ q e. let (y, same, f) = rw e at r.tables in cc }
