-- What each rule of document 01's "Readings" asks. The readings, the relations and the origins are made of this table.
use Rattle.std.specs.Prelude.{Bool, true}
use Rattle.analysis.specs.Row.{Row}
use Rattle.analysis.specs.Patterns as patterns
use Rattle.sheet.specs.declared.names.CommentKind.{CommentKind}
use Rattle.sheet.specs.declared.names.MediaType.{MediaType}
use Rattle.sheet.specs.Comments.{is_block, is_line}
use Rattle.sheet.specs.Media.{is_java_script, is_jsx}
use Rattle.report.specs.declared.origins.EntryRule.{EntryRule}
use Rattle.report.specs.declared.origins.EntryRule.TheVariants as entries

-- of the sheet its media, of a comment its kind, and of its body that a pattern reads it; and how an origin names the rule
pub record Asks : Type 0 where
  pub media : MediaType → Bool
  pub kind : CommentKind → Bool
  pub row : Row
  pub entry : EntryRule

abbrev pub any : {A : Type 0} → A → Bool
any a = true

-- references
abbrev pub path_rule : Asks
path_rule = record { media = any; kind = is_line; row = patterns.path_row; entry = entries.Path }

abbrev pub types_rule : Asks
types_rule = record { media = any; kind = is_line; row = patterns.types_row; entry = entries.Types }

-- pragmas of a sheet
abbrev pub self_types_rule : Asks
self_types_rule = record { media = is_java_script; kind = any; row = patterns.ts_self_types_row; entry = entries.SelfTypes }

abbrev pub jsx_import_source_rule : Asks
jsx_import_source_rule = record { media = is_jsx; kind = is_block; row = patterns.jsx_import_source_row; entry = entries.JsxImportSource }

abbrev pub jsx_import_source_types_rule : Asks
jsx_import_source_types_rule = record { media = is_jsx; kind = is_block; row = patterns.jsx_import_source_types_row; entry = entries.JsxImportSourceTypes }

abbrev pub source_map_url_rule : Asks
source_map_url_rule = record { media = any; kind = any; row = patterns.source_mapping_url_row; entry = entries.SourceMap }

-- pragmas of a dependency
abbrev pub ts_types_rule : Asks
ts_types_rule = record { media = any; kind = any; row = patterns.ts_types_row; entry = entries.TsTypes }

abbrev pub deno_types_rule : Asks
deno_types_rule = record { media = any; kind = any; row = patterns.deno_types_row; entry = entries.DenoTypes }
