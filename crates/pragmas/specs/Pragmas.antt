-- The references and the pragmas of a sheet: each rule of document 01's "Readings" with the comments that it gives to it.
use Rattle.std.specs.Prelude.{cond, List, [], ℕ}
use Rattle.std.specs.Prelude.{None, Option, Some, option_map}
use Rattle.analysis.specs.declared.Capture.{Capture}
use Rattle.analysis.specs.Mode.{Mode, mode_of}
use Rattle.analysis.specs.Row.{find, is_found}
use Rattle.analysis.specs.Place.{text_of}
use Rattle.analysis.specs.Patterns.{triple_slash_row, resolution_mode_row}
use Rattle.sheet.specs.declared.comments.Comment.{Comment}
use Rattle.sheet.specs.declared.groups.Group.{Group}
use Rattle.sheet.specs.Lookups.{group_at, head_group, end_group, in_group, last_comment_of, body}
use Rattle.sheet.specs.Sheet.{Sheet}
use Rattle.sheet.specs.declared.names.MediaType.{MediaType}
use Rattle.sheet.specs.declared.names.Side.TheVariants.{Leading}
use Rattle.report.specs.ModuleInfo.{SpecifierWithRange, TypeScriptReference, path, types}
use Rattle.pragmas.specs.Asks.{Asks, path_rule, types_rule, self_types_rule, jsx_import_source_rule, jsx_import_source_types_rule, source_map_url_rule}
use Rattle.pragmas.specs.Asks.{ts_types_rule, deno_types_rule}
use Rattle.pragmas.specs.Readings.{read_by, or_else, first_of, last_of, all_of}

-- the comments of the head group, and of the trailing group at the program's end
unfoldable pub head_comments : Sheet → List Comment
head_comments t = in_group t.comments (head_group t.program t.groups)

unfoldable pub end_comments : Sheet → List Comment
end_comments t = in_group t.comments (end_group t.program t.groups)

-- the mode that a comment names for a types reference
abbrev pub mode_by : List ℕ → Option Capture → Mode
mode_by b (Some k) = mode_of (text_of b k)
mode_by b None = None

unfoldable pub mode_in : List ℕ → Comment → Mode
mode_in source c = mode_by (body source c) (find resolution_mode_row (body source c))

-- a reference: by the types rule, or else by the path one
abbrev pub reference_by : List ℕ → Comment → Option TypeScriptReference
reference_by source c = or_else (option_map (λ x. types x (mode_in source c)) (read_by types_rule source c)) (option_map path (read_by path_rule source c))

-- from a comment that the triple-slash pattern reads
unfoldable pub reference : List ℕ → Comment → Option TypeScriptReference
reference source c = cond (is_found (find triple_slash_row (body source c))) (reference_by source c) None

unfoldable pub references_in : List ℕ → List Comment → List TypeScriptReference
references_in source cs = all_of (reference source) cs

-- the comments that a rule is given: none where the media excludes it
abbrev pub given_to : Asks → MediaType → List Comment → List Comment
given_to rule media cs = cond (rule.media media) cs []

-- the first reading of a rule in comments of a sheet of that media, and the last
unfoldable pub first_by : Asks → MediaType → List ℕ → List Comment → Option SpecifierWithRange
first_by rule media source cs = first_of (read_by rule source) (given_to rule media cs)

unfoldable pub last_by : Asks → MediaType → List ℕ → List Comment → Option SpecifierWithRange
last_by rule media source cs = last_of (read_by rule source) (given_to rule media cs)

-- those of a sheet
abbrev pub ts_references : Sheet → List TypeScriptReference
ts_references t = references_in t.source (head_comments t)

abbrev pub self_types_specifier : Sheet → Option SpecifierWithRange
self_types_specifier t = first_by self_types_rule t.media t.source (head_comments t)

abbrev pub jsx_import_source : Sheet → Option SpecifierWithRange
jsx_import_source t = first_by jsx_import_source_rule t.media t.source (head_comments t)

abbrev pub jsx_import_source_types : Sheet → Option SpecifierWithRange
jsx_import_source_types t = first_by jsx_import_source_types_rule t.media t.source (head_comments t)

abbrev pub source_map_url : Sheet → Option SpecifierWithRange
source_map_url t = last_by source_map_url_rule t.media t.source (end_comments t)

-- by the ts-types rule, or else by the deno-types one
unfoldable pub ts_or_deno_types : List ℕ → Comment → Option SpecifierWithRange
ts_or_deno_types source c = or_else (read_by ts_types_rule source c) (read_by deno_types_rule source c)

abbrev pub types_by : List ℕ → Option Comment → Option SpecifierWithRange
types_by source None = None
types_by source (Some c) = ts_or_deno_types source c

abbrev pub last_in : List Comment → Option Group → Option Comment
last_in cs None = None
last_in cs (Some g) = last_comment_of cs g

-- the types of an entry, from the last comment of the leading group at the start of its node
unfoldable pub types_in : List ℕ → List Comment → List Group → ℕ → Option SpecifierWithRange
types_in source cs gs start = types_by source (last_in cs (group_at gs Leading start))

abbrev pub types_at : Sheet → ℕ → Option SpecifierWithRange
types_at t = types_in t.source t.comments t.groups
