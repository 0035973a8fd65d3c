-- The ten patterns as tables, each beside its row.
use Rattle.std.specs.Prelude.{List, [], ◌∷◌, ◌++◌, ℕ, length}
use Prim.Native.String.{String}
use Rattle.laws.specs.Ascii.{ascii}
use Rattle.analysis.specs.Row.{Row}
use Rattle.analysis.specs.Patterns.{triple_slash_row, path_row, types_row, resolution_mode_row, jsx_import_source_row, jsx_import_source_types_row}
use Rattle.analysis.specs.Patterns.{source_mapping_url_row, ts_self_types_row, ts_types_row, deno_types_row}
use Rattle.steps.specs.declared.Pattern.{Pattern}
use Rattle.steps.specs.declared.Pattern.TheVariants.{TripleSlash, Path, Types, ResolutionMode, JsxImportSource, JsxImportSourceTypes}
use Rattle.steps.specs.declared.Pattern.TheVariants.{SourceMappingUrl, TsSelfTypes, TsTypes, DenoTypes}
use Rattle.steps.specs.Codes.{START, TO, WORD, ONE, LONGEST, SHORTEST, FROM, EITHER, WHITE, not_white, white_or_star, not_lf, QUOTE, not_quote}
use Rattle.steps.specs.Codes.{source_mark, BARE, MARKED}

-- a word, by its letters
abbrev pub word : String → List ℕ
word w = WORD ∷ length (ascii w) ∷ ascii w

-- \s*=\s*
abbrev pub equals : List ℕ
equals = LONGEST ∷ WHITE ∷ word "=" ++ LONGEST ∷ WHITE ∷ []

-- ["']([^"']*)["']
abbrev pub quoted : List ℕ
quoted = ONE ∷ QUOTE ∷ FROM ∷ MARKED ∷ LONGEST ∷ not_quote ∷ TO ∷ ONE ∷ QUOTE ∷ []

-- ["']([^"']+)["']
abbrev pub quoted_some : List ℕ
quoted_some = ONE ∷ QUOTE ∷ FROM ∷ MARKED ∷ ONE ∷ not_quote ∷ LONGEST ∷ not_quote ∷ TO ∷ ONE ∷ QUOTE ∷ []

-- (\S+)
abbrev pub bare : List ℕ
bare = FROM ∷ BARE ∷ ONE ∷ not_white ∷ LONGEST ∷ not_white ∷ TO ∷ []

-- \sWORD\s*=\s*["']([^"']*)["']
abbrev pub attribute : String → List ℕ
attribute w = ONE ∷ WHITE ∷ word w ++ equals ++ quoted

-- ^[\s*]*WORD\s+(\S+)
abbrev pub jsx : String → List ℕ
jsx w = START ∷ LONGEST ∷ white_or_star ∷ word w ++ ONE ∷ WHITE ∷ LONGEST ∷ WHITE ∷ bare

-- ^\s*WORD\s*=\s*["']([^"']+)["']
abbrev pub pragma : String → List ℕ
pragma w = START ∷ LONGEST ∷ WHITE ∷ word w ++ equals ++ quoted_some

unfoldable pub table_of : Pattern → List ℕ
table_of TripleSlash = START ∷ word "/" ++ LONGEST ∷ WHITE ∷ word "<reference" ++ ONE ∷ WHITE ∷ SHORTEST ∷ not_lf ∷ word "/>"
table_of Path = attribute "path"
table_of Types = attribute "types"
table_of ResolutionMode = attribute "resolution-mode"
table_of JsxImportSource = jsx "@jsxImportSource"
table_of JsxImportSourceTypes = jsx "@jsxImportSourceTypes"
table_of SourceMappingUrl = START ∷ ONE ∷ source_mark ∷ LONGEST ∷ WHITE ∷ word "sourceMappingURL" ++ equals ++ bare
table_of TsSelfTypes = pragma "@ts-self-types"
table_of TsTypes = pragma "@ts-types"
table_of DenoTypes = START ∷ LONGEST ∷ WHITE ∷ word "@deno-types" ++ equals ++ EITHER ∷ length quoted_some ∷ quoted_some ++ bare

abbrev pub row_of : Pattern → Row
row_of TripleSlash = triple_slash_row
row_of Path = path_row
row_of Types = types_row
row_of ResolutionMode = resolution_mode_row
row_of JsxImportSource = jsx_import_source_row
row_of JsxImportSourceTypes = jsx_import_source_types_row
row_of SourceMappingUrl = source_mapping_url_row
row_of TsSelfTypes = ts_self_types_row
row_of TsTypes = ts_types_row
row_of DenoTypes = deno_types_row
