-- Document 01's report read back from its bytes.
use Rattle.std.specs.Prelude.{cond, List, [], ◌∷◌, ℕ, zero, suc, get_or}
use Rattle.std.specs.Prelude.{None, Option, Some}
use Rattle.laws.specs.Decoded.{Decoder, on_ok, ◌>>=◌, ◌>>◌, return, refuse, require}
use Rattle.text.specs.declared.position.Position.{Position}
use Rattle.wire.specs.Refusals as refusals
use Rattle.wire.specs.Fields.{byte, Values, numbered, flag, bytes}
use Rattle.wire.specs.Number.{number}
use Rattle.wire.specs.Optional.{optional}
use Rattle.analysis.specs.declared.mode.TypeScriptTypesResolutionMode.TheVariants.{Import, Require}
use Rattle.analysis.specs.Mode.{Mode}
use Rattle.report.specs.declared.names.DependencyKind.{DependencyKind}
use Rattle.report.specs.declared.names.DependencyKind.TheVariants.{Static, Dynamic}
use Rattle.report.specs.Names.{dependency_kinds}
use Rattle.report.specs.ModuleInfo.{PositionRange, SpecifierWithRange, TypeScriptReference, path, types, JsDocImportInfo, KeyValue}
use Rattle.report.specs.ModuleInfo.{ImportAttributes, none, unknown, known, DynamicArgument, expr, string, template, DependencyDescriptor}
use Rattle.report.specs.ModuleInfo.{static, dynamic, ModuleInfo}

unfoldable pub times : {A : Type 0} → Decoder A → ℕ → Decoder (List A)
times f zero = return []
times f (suc k) = f >>= λ a s. on_ok (a ∷◌) (times f k s)

unfoldable pub list : {A : Type 0} → Decoder A → Decoder (List A)
list f = number >>= times f

unfoldable pub text : Decoder (List ℕ)
text = number >>= bytes

unfoldable pub position : Decoder Position
position = do
  line ← number
  column ← number
  return (record { line = line; column = column })

unfoldable pub range : Decoder PositionRange
range = do
  start ← position
  end ← position
  return (record { start = start; end = end })

unfoldable pub specifier : Decoder SpecifierWithRange
specifier = do
  x ← text
  r ← range
  return (record { text = x; range = r })

-- the modes in the order of their numbers
abbrev pub modes : Values Mode
modes = record { front = None ∷ Some Import ∷ []; last = Some Require }

unfoldable pub reference : Decoder TypeScriptReference
reference = do
  kind ← flag
  s ← specifier
  cond kind (numbered modes >>= λ mode. return (types s mode)) (return (path s))

unfoldable pub jsdoc : Decoder JsDocImportInfo
jsdoc = do
  kind ← flag
  require kind refusals.byte
  s ← specifier
  mode ← numbered modes
  return (record { specifier = s; mode = mode })

unfoldable pub key_value : Decoder KeyValue
key_value = do
  k ← text
  v ← optional text
  return (record { key = k; value = v })

unfoldable pub attributes : Decoder ImportAttributes
attributes = do
  kind ← byte
  get_or (return none ∷ return unknown ∷ (list key_value >>= λ l. return (known l)) ∷ []) kind (refuse refusals.byte)

unfoldable pub argument : Decoder DynamicArgument
argument = do
  kind ← byte
  get_or (return expr ∷ (text >>= λ x. return (string x)) ∷ (list (optional text) >>= λ l. return (template l)) ∷ []) kind (refuse refusals.byte)

-- what follows the kind and the types
unfoldable pub rest : DependencyKind → Option SpecifierWithRange → Decoder DependencyDescriptor
rest (Static kind) t = do
  s ← specifier
  side_effect ← flag
  a ← attributes
  return (static (record { kind = kind; types_specifier = t; specifier = s; side_effect = side_effect; import_attributes = a }))
rest (Dynamic kind) t = do
  x ← argument
  r ← range
  a ← attributes
  return (dynamic (record { kind = kind; types_specifier = t; argument = x; argument_range = r; import_attributes = a }))

unfoldable pub dependency : Decoder DependencyDescriptor
dependency = do
  kind ← numbered dependency_kinds
  t ← optional specifier
  rest kind t

unfoldable pub report : Decoder ModuleInfo
report = do
  is_script ← flag
  dependencies ← list dependency
  ts_references ← list reference
  self_types_specifier ← optional specifier
  jsx_import_source ← optional specifier
  jsx_import_source_types ← optional specifier
  jsdoc_imports ← list jsdoc
  source_map_url ← optional specifier
  return (record {
    is_script = is_script;
    dependencies = dependencies;
    ts_references = ts_references;
    self_types_specifier = self_types_specifier;
    jsx_import_source = jsx_import_source;
    jsx_import_source_types = jsx_import_source_types;
    jsdoc_imports = jsdoc_imports;
    source_map_url = source_map_url;
  })
