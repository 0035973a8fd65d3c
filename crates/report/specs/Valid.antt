-- The values that a report can tell apart: each number that is written is at most the largest, and each byte is one of its field's.
use Rattle.std.specs.Prelude.{List, ◌≤◌, length}
use Rattle.laws.specs.Codec.{All, IfThere}
use Rattle.text.specs.declared.position.Position.{Position}
use Rattle.wire.specs.Number.{largest}
use Rattle.report.specs.ModuleInfo.{PositionRange, SpecifierWithRange, TypeScriptReference, path, types, JsDocImportInfo, KeyValue}
use Rattle.report.specs.ModuleInfo.{ImportAttributes, none, unknown, known, DynamicArgument, expr, string, template, StaticDependencyDescriptor}
use Rattle.report.specs.ModuleInfo.{DynamicDependencyDescriptor, DependencyDescriptor, static, dynamic, ModuleInfo}

-- the length can be written
abbrev pub Short : {A : Type 0} → List A → Type 0
Short l = length l ≤ largest

pub record ValidPosition (p : Position) : Type 0 where
  pub line : p.line ≤ largest
  pub column : p.column ≤ largest

pub record ValidRange (r : PositionRange) : Type 0 where
  pub start : ValidPosition r.start
  pub end : ValidPosition r.end

pub record ValidSpecifier (s : SpecifierWithRange) : Type 0 where
  pub text : Short s.text
  pub range : ValidRange s.range

abbrev pub ValidReference : TypeScriptReference → Type 0
ValidReference (path s) = ValidSpecifier s
ValidReference (types s mode) = ValidSpecifier s

abbrev pub ValidJsDoc : JsDocImportInfo → Type 0
ValidJsDoc i = ValidSpecifier i.specifier

pub record ValidKeyValue (a : KeyValue) : Type 0 where
  pub key : Short a.key
  pub value : IfThere Short a.value

abbrev pub ValidAttributes : ImportAttributes → Type 0
ValidAttributes none = Unit {0}
ValidAttributes unknown = Unit {0}
ValidAttributes (known l) = Short l × All ValidKeyValue l

abbrev pub ValidArgument : DynamicArgument → Type 0
ValidArgument expr = Unit {0}
ValidArgument (string x) = Short x
ValidArgument (template l) = Short l × All (IfThere Short) l

pub record ValidStatic (d : StaticDependencyDescriptor) : Type 0 where
  pub types_specifier : IfThere ValidSpecifier d.types_specifier
  pub specifier : ValidSpecifier d.specifier
  pub import_attributes : ValidAttributes d.import_attributes

pub record ValidDynamic (d : DynamicDependencyDescriptor) : Type 0 where
  pub types_specifier : IfThere ValidSpecifier d.types_specifier
  pub argument : ValidArgument d.argument
  pub argument_range : ValidRange d.argument_range
  pub import_attributes : ValidAttributes d.import_attributes

abbrev pub ValidDependency : DependencyDescriptor → Type 0
ValidDependency (static d) = ValidStatic d
ValidDependency (dynamic d) = ValidDynamic d

pub record Valid (m : ModuleInfo) : Type 0 where
  pub dependencies : Short m.dependencies × All ValidDependency m.dependencies
  pub ts_references : Short m.ts_references × All ValidReference m.ts_references
  pub self_types_specifier : IfThere ValidSpecifier m.self_types_specifier
  pub jsx_import_source : IfThere ValidSpecifier m.jsx_import_source
  pub jsx_import_source_types : IfThere ValidSpecifier m.jsx_import_source_types
  pub jsdoc_imports : Short m.jsdoc_imports × All ValidJsDoc m.jsdoc_imports
  pub source_map_url : IfThere ValidSpecifier m.source_map_url
