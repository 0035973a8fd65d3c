-- What a report says, in the types of src/analysis.rs. A text is its bytes.
use Rattle.std.specs.Prelude.{Bool, List, ℕ}
use Rattle.std.specs.Prelude.{Option}
use Rattle.text.specs.declared.position.Position.{Position}
use Rattle.analysis.specs.Mode.{Mode}
use Rattle.report.specs.declared.names.StaticDependencyKind.{StaticDependencyKind}
use Rattle.report.specs.declared.names.DynamicDependencyKind.{DynamicDependencyKind}

pub record PositionRange : Type 0 where
  pub start : Position
  pub end : Position

pub record SpecifierWithRange : Type 0 where
  pub text : List ℕ
  pub range : PositionRange

pub data TypeScriptReference : Type 0 where
  path : SpecifierWithRange → TypeScriptReference
  types : SpecifierWithRange → Mode → TypeScriptReference

pub record JsDocImportInfo : Type 0 where
  pub specifier : SpecifierWithRange
  pub mode : Mode

-- the value of an attribute, if it is a string
abbrev pub ImportAttribute : Type 0
ImportAttribute = Option (List ℕ)

pub record KeyValue : Type 0 where
  pub key : List ℕ
  pub value : ImportAttribute

pub data ImportAttributes : Type 0 where
  none : ImportAttributes
  unknown : ImportAttributes
  known : List KeyValue → ImportAttributes  -- keys ascending by bytes

-- a part of a template: a text, or none for an expression
abbrev pub DynamicTemplatePart : Type 0
DynamicTemplatePart = Option (List ℕ)

pub data DynamicArgument : Type 0 where
  expr : DynamicArgument
  string : List ℕ → DynamicArgument
  template : List DynamicTemplatePart → DynamicArgument

pub record StaticDependencyDescriptor : Type 0 where
  pub kind : StaticDependencyKind
  pub types_specifier : Option SpecifierWithRange
  pub specifier : SpecifierWithRange
  pub side_effect : Bool
  pub import_attributes : ImportAttributes

pub record DynamicDependencyDescriptor : Type 0 where
  pub kind : DynamicDependencyKind
  pub types_specifier : Option SpecifierWithRange
  pub argument : DynamicArgument
  pub argument_range : PositionRange
  pub import_attributes : ImportAttributes

pub data DependencyDescriptor : Type 0 where
  static : StaticDependencyDescriptor → DependencyDescriptor
  dynamic : DynamicDependencyDescriptor → DependencyDescriptor

pub record ModuleInfo : Type 0 where
  pub is_script : Bool
  pub dependencies : List DependencyDescriptor
  pub ts_references : List TypeScriptReference
  pub self_types_specifier : Option SpecifierWithRange
  pub jsx_import_source : Option SpecifierWithRange
  pub jsx_import_source_types : Option SpecifierWithRange
  pub jsdoc_imports : List JsDocImportInfo
  pub source_map_url : Option SpecifierWithRange
