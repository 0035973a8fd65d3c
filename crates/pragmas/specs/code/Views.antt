-- What the answers of the code stand for, and the rules that it reads comments by.
use Rattle.std.specs.Prelude.{◌≡◌, cond, List, [], ℕ}
use Rattle.std.specs.Prelude.{None, Option, Some, option_map}
use Rattle.analysis.specs.declared.Capture.{Capture}
use Rattle.analysis.specs.Row.{find}
use Rattle.ecma426.specs.Reader.{find_source_map}
use Rattle.sheet.specs.declared.comments.Comment.{Comment}
use Rattle.sheet.specs.Lookups.{body}
use Rattle.report.specs.ModuleInfo.{SpecifierWithRange, TypeScriptReference, path, types}
use Rattle.report.specs.declared.origins.EntryRule.{EntryRule}
use Rattle.report.specs.Origin.{Origin}
use Rattle.pragmas.specs.declared.readings.Rule.{Rule}
use Rattle.pragmas.specs.declared.readings.Rule.TheVariants.{TsSelfTypes, JsxImportSource, JsxImportSourceTypes, SourceMapUrl}
use Rattle.pragmas.specs.declared.readings.Rule.TheVariants.{StandardSourceMap, TsTypes, DenoTypes}
use Rattle.pragmas.specs.declared.taken.Taken.{Taken}
use Rattle.pragmas.specs.declared.references.Reference.{Reference}
use Rattle.pragmas.specs.declared.references.Reference.TheVariants as reference
use Rattle.pragmas.specs.Asks.{Asks, self_types_rule, jsx_import_source_rule, jsx_import_source_types_rule, source_map_url_rule, ts_types_rule, deno_types_rule}
use Rattle.pragmas.specs.Readings.{specifier_in}
use Rattle.pragmas.specs.Origins.{origin_of}
use Rattle.pragmas.specs.code.Captured.{Captured, CaptureIn, specifier_as}

-- what a rule asks; that of ECMA-426 asks what the report's source map does, but for what it finds
abbrev pub asked : Rule → Asks
asked TsSelfTypes = self_types_rule
asked JsxImportSource = jsx_import_source_rule
asked JsxImportSourceTypes = jsx_import_source_types_rule
asked SourceMapUrl = source_map_url_rule
asked StandardSourceMap = source_map_url_rule
asked TsTypes = ts_types_rule
asked DenoTypes = deno_types_rule

-- what it finds in a body
abbrev pub find_rule : Rule → List ℕ → Option Capture
find_rule TsSelfTypes = find self_types_rule.row
find_rule JsxImportSource = find jsx_import_source_rule.row
find_rule JsxImportSourceTypes = find jsx_import_source_types_rule.row
find_rule SourceMapUrl = find source_map_url_rule.row
find_rule StandardSourceMap = find_source_map
find_rule TsTypes = find ts_types_rule.row
find_rule DenoTypes = find deno_types_rule.row

-- what is made of what it captures in a comment
abbrev pub on_rule : {A : Type 0} → Rule → List ℕ → (Comment → Capture → A) → Comment → Option A
on_rule rule source make c = cond ((asked rule).kind c.kind) (option_map (make c) (find_rule rule (body source c))) None

-- what a rule takes of a comment
abbrev pub taken_by : Rule → List ℕ → Comment → Option Captured
taken_by rule source = on_rule rule source (λ c k. record { source = source; comment = c; capture = k })

-- what a reading stands for
abbrev pub captured_as : Taken → Captured
captured_as t = record { source = t.comments.now.source; comment = t.comment; capture = t.capture }

abbrev pub taken_as : Option Taken → Option Captured
taken_as = option_map captured_as

-- the specifier that a rule reads in a comment
abbrev pub read_rule : Rule → List ℕ → Comment → Option SpecifierWithRange
read_rule rule source = on_rule rule source (specifier_in source)

-- how a reading was found, and what a reference gives
abbrev pub origin_as : EntryRule → Option Captured → Option Origin
origin_as entry = option_map (λ t. origin_of entry t.comment)

abbrev pub reference_as : Reference → TypeScriptReference
reference_as (reference.Path t) = path (specifier_as (captured_as t))
reference_as (reference.Types t mode) = types (specifier_as (captured_as t)) mode

-- what is captured for a reference is of that comment of that source, and lies in its body
abbrev pub TakenOf : List ℕ → Comment → Taken → Type 0
TakenOf source c t = (captured_as t ≡ record { source = source; comment = c; capture = t.capture }) × CaptureIn source c t.capture

abbrev pub ReferenceIn : List ℕ → Comment → Option Reference → Type 0
ReferenceIn source c (Some (reference.Path t)) = TakenOf source c t
ReferenceIn source c (Some (reference.Types t mode)) = TakenOf source c t
ReferenceIn source c None = Unit {0}

-- the bytes of what is there, none if there is nothing
abbrev pub encode_any : {A : Type 0} → (A → List ℕ) → Option A → List ℕ
encode_any f None = []
encode_any f (Some a) = f a
