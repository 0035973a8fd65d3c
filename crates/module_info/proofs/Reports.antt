-- The report of a sheet within the limits can be written and read back, and its texts are well-formed.
use Rattle.std.specs.Prelude.{Some, None}
use Rattle.laws.proofs.Prelude.{◌≡◌, refl, [], ◌∷◌, Memᴰ, Option, ℕ, ◌≤◌, arith, length, length-append}
use Rattle.laws.{specs.Codec.All, specs.Codec.IfThere, proofs.Lists.all_member, proofs.Lists.of_members}
use Rattle.analysis.specs.Row.{Row}
use Rattle.analysis.specs.Patterns.{jsx_import_source_row, jsx_import_source_types_row, source_mapping_url_row, ts_self_types_row}
use Rattle.sheet.{specs.Limits.sheet_limit, specs.Walk.Visit, specs.Walk.visits, specs.Sheet.Sheet, proofs.Reaches.walk_right}
use Rattle.sheet_codec.specs.{Encode.encode_sheet, Encode.encode_node, Limits.WithinLimits}
use Rattle.report.specs.ModuleInfo.{SpecifierWithRange, TypeScriptReference, path, types, DependencyDescriptor, ModuleInfo}
use Rattle.report.{specs.Texts.ReferenceText, specs.Texts.EachText, specs.Valid.ValidReference, specs.Valid.Valid, proofs.ReadBack.report_back}
use Rattle.report.proofs.Stands.{Good}
use Rattle.pragmas.specs.{Pragmas.types_at, Present.Present}
use Rattle.pragmas.specs.Texts.{ShownInMarks, ShownBare, TypesShown, Texts}
use Rattle.pragmas.proofs.Valid.{marks_shown, bare_shown, types_shown_good, GoodReference, references_good, references_few}
use Rattle.jsdoc_list.{specs.Demand.JsDocRight, proofs.Valid.imports_good, proofs.Valid.imports_few}
use Rattle.dep.specs.{Collect.entry_of, InTurn.InTurn, InTurn.Worded}
use Rattle.dep.proofs.Turns.{turn_member, turns_few, turns_with}
use Rattle.module_info.specs.{Information.module_info, Report.ReportRight}
use Rattle.module_info.proofs.Inside.{visits_few}
use Rattle.module_info.proofs.Fine.{Text, Fine, walked_fine, good_valid, good_text}

root_bytes : (t : Sheet) → WithinLimits t → length (encode_node t.root) ≤ sheet_limit
unfolding encode_sheet
root_bytes t h = let g = simp length-append at h.bytes in omega arith

if_good : (P : SpecifierWithRange → Type 0) → ((x : SpecifierWithRange) → P x → Good x) → (o : Option SpecifierWithRange) → IfThere P o → IfThere Good o
if_good P f None p = tt
if_good P f (Some x) p = f x p

module _ (t : Sheet) (h : WithinLimits t) (typed : (start : ℕ) → IfThere (TypesShown t) (types_at t start)) where
  entry_fine : (v : Visit) → Memᴰ v (visits t.root) → (d : DependencyDescriptor) → entry_of t.source (types_at t) v ≡ d ∷ [] →
      Fine (Worded t.source v) d
  entry_fine v i d e =
      let (n, w, o) = (walk_right t.root).of_walked v i in
      walked_fine t.source h.fields.source.0 (types_at t)
      (λ start. if_good (TypesShown t) (λ x s. types_shown_good t h.fields.source.0 h.fields.source.1 s) (types_at t start) (typed start))
      w o h.fields.root (root_bytes t h) e

  -- each entry of the visits, in turn
  pub entries_fine : {P : Visit → DependencyDescriptor → Type 0} → ((v : Visit) (d : DependencyDescriptor) → P v d → entry_of t.source (types_at t) v ≡ d ∷ [])
      → InTurn P (visits t.root) (module_info t).dependencies →
      InTurn (λ v d. P v d × Fine (Worded t.source v) d) (visits t.root) (module_info t).dependencies
  entries_fine is turns = turns_with turns (λ v i d p. (p, entry_fine v i d (is v d p)))

  module _ (turns : InTurn (λ v d. Fine (Worded t.source v) d) (visits t.root) (module_info t).dependencies)
      (present : Present t (module_info t)) (texts : Texts t (module_info t))
      (right : JsDocRight t.media t.source t.comments (module_info t).jsdoc_imports) where
    abbrev m : ModuleInfo
    m = module_info t

    bare : (row : Row) (o : Option SpecifierWithRange) → IfThere (ShownBare row t) o → IfThere Good o
    bare row = if_good (ShownBare row t) (λ x s. bare_shown t h.fields.source.0 h.fields.source.1 s)

    self_types : IfThere Good m.self_types_specifier
    self_types = if_good (ShownInMarks ts_self_types_row t) (λ x s. marks_shown t h.fields.source.0 h.fields.source.1 s) m.self_types_specifier
        texts.self_types

    jsx : IfThere Good m.jsx_import_source
    jsx = bare jsx_import_source_row m.jsx_import_source texts.jsx_import_source

    jsx_types_lem : IfThere Good m.jsx_import_source_types
    jsx_types_lem = bare jsx_import_source_types_row m.jsx_import_source_types texts.jsx_import_source_types

    source_map_lem : IfThere Good m.source_map_url
    source_map_lem = bare source_mapping_url_row m.source_map_url texts.source_map_url

    references : All GoodReference m.ts_references
    references = references_good t h.fields.source.0 h.fields.source.1 m.ts_references texts.references

    imports : All (λ i. Good i.specifier) m.jsdoc_imports
    imports = imports_good t h.fields.source.0 h.fields.source.1 right

    valid_reference : (a : TypeScriptReference) → GoodReference a → ValidReference a
    valid_reference (path x) g = g.valid
    valid_reference (types x mode) g = g.valid

    reference_text : (a : TypeScriptReference) → GoodReference a → ReferenceText Text a
    reference_text (path x) g = g.text
    reference_text (types x mode) g = g.text

    fits : Valid m
    unfolding module_info
    fits = record {
      dependencies = (
        omega (arith, turns_few turns, visits_few t.root (visits t.root) (walk_right t.root).in_order, root_bytes t h),
        of_members _ m.dependencies (λ d i. (turn_member turns i).1.valid),
      );
      ts_references = (
        omega (arith, references_few t ((present.references m.ts_references).0 refl), h.fields.comments.0),
        of_members _ m.ts_references (λ a i. valid_reference a (all_member _ m.ts_references references i)),
      );
      self_types_specifier = good_valid m.self_types_specifier self_types;
      jsx_import_source = good_valid m.jsx_import_source jsx;
      jsx_import_source_types = good_valid m.jsx_import_source_types jsx_types_lem;
      jsdoc_imports = (
        omega (arith, imports_few t.media h.fields.comments.1, h.fields.source.0),
        of_members _ m.jsdoc_imports (λ i j. (all_member _ m.jsdoc_imports imports j).valid),
      );
      source_map_url = good_valid m.source_map_url source_map_lem;
    }

    each : EachText Text m
    each = record {
      dependencies = of_members _ m.dependencies (λ d i. (turn_member turns i).1.texts);
      ts_references = of_members _ m.ts_references (λ a i. reference_text a (all_member _ m.ts_references references i));
      self_types_specifier = good_text m.self_types_specifier self_types;
      jsx_import_source = good_text m.jsx_import_source jsx;
      jsx_import_source_types = good_text m.jsx_import_source_types jsx_types_lem;
      jsdoc_imports = of_members _ m.jsdoc_imports (λ i j. (all_member _ m.jsdoc_imports imports j).text);
      source_map_url = good_text m.source_map_url source_map_lem;
    }

    pub report_right : ReportRight m
    report_right = record { fits = fits; back = report_back.back m fits; texts = each }
