-- Request #104 beside the rule before it: of a sheet's information only the references can differ, and they do exactly where both patterns read a comment of
-- the head group.
use Rattle.laws.proofs.Prelude.{◌≡◌, ap, ◌↔◌, Memᴰ}
use Rattle.sheet.specs.{declared.comments.Comment.Comment, Sheet.Sheet}
use Rattle.report.specs.ModuleInfo.{ModuleInfo}
use Rattle.pragmas.specs.{Readings.all_of, Pragmas.head_comments, Pragmas.references_in}
use Rattle.pragmas.proofs.PathFirst.{path_first, BothRead, same_references}
use Rattle.module_info.specs.Information.{module_info}

-- the information by the rule before
abbrev pub path_first_info : Sheet → ModuleInfo
path_first_info t =
    let m = module_info t in
    record {
      is_script = m.is_script;
      dependencies = m.dependencies;
      ts_references = all_of (path_first t.source) (head_comments t);
      self_types_specifier = m.self_types_specifier;
      jsx_import_source = m.jsx_import_source;
      jsx_import_source_types = m.jsx_import_source_types;
      jsdoc_imports = m.jsdoc_imports;
      source_map_url = m.source_map_url;
    }

pub same_information : (t : Sheet) → (path_first_info t ≡ module_info t) ↔ ((c : Comment) → Memᴰ c (head_comments t) → BothRead t.source c → ⊥)
unfolding module_info references_in
same_information t =
    let (apart, equal) = same_references t.source (head_comments t) in
    (λ e. apart (ap (λ m. m.ts_references) e), λ n. rw (equal n))
