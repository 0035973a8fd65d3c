-- The module information of a sheet, and the answer to a call: `module_info_from_swc` of src/ast/mod.rs, behind the sheet reader.
use Rattle.std.specs.Prelude.{false, List, [], ℕ, ◌+◌, ◌*◌, ◌%◌}
use Rattle.std.specs.Prelude.{None}
use Rattle.sheet.specs.Sheet.{Sheet}
use Rattle.sheet.specs.Judge.{Judged, empty, sheet, refusal, judge}
use Rattle.report.specs.ModuleInfo.{ModuleInfo}
use Rattle.report.specs.Encode.{encode}
use Rattle.report.specs.Answer.{Answer, refused_with, fitted}
use Rattle.pragmas.specs.Pragmas.{ts_references, self_types_specifier, jsx_import_source, jsx_import_source_types, source_map_url, types_at}
use Rattle.jsdoc_list.specs.Imports.{jsdoc_imports}
use Rattle.dep.specs.Collect.{collect}

unfoldable pub module_info : Sheet → ModuleInfo
module_info t = record {
  is_script = t.program.script;
  dependencies = collect t.source (types_at t) t.root;
  ts_references = ts_references t;
  self_types_specifier = self_types_specifier t;
  jsx_import_source = jsx_import_source t;
  jsx_import_source_types = jsx_import_source_types t;
  jsdoc_imports = jsdoc_imports t.media t.source t.comments;
  source_map_url = source_map_url t;
}

-- `ModuleInfo::default()` of src/analysis.rs: the information of no bytes
abbrev pub default_info : ModuleInfo
default_info = record {
  is_script = false;
  dependencies = [];
  ts_references = [];
  self_types_specifier = None;
  jsx_import_source = None;
  jsx_import_source_types = None;
  jsdoc_imports = [];
  source_map_url = None;
}

-- no bytes get the default report, an accepted sheet its own, if the buffer can hold it; any other the first refusal that it meets
abbrev pub answer_to : ℕ → Judged → Answer
answer_to size empty = fitted size (encode default_info)
answer_to size (sheet t) = fitted size (encode (module_info t))
answer_to size (refusal r) = refused_with r size

-- the answer to bytes and a buffer of so many bytes
unfoldable pub answer_of : List ℕ → ℕ → Answer
answer_of s size = answer_to size (judge s)

-- number and length in one, for C: number + 256 × length. The length takes 56 bits, which is more than any machine's memory has
abbrev pub packed : Answer → ℕ
packed a = a.number + 256 * (a.written % 72057594037927936)
