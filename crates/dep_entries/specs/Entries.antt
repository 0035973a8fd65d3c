-- The entry of a dependency in the report: its kind, its text and what stands beside it. Which nodes have one is said by the walk.
use Rattle.std.specs.Prelude.{Bool, true, false, cond, List, [], ◌∷◌, ℕ}
use Rattle.std.specs.Prelude.{None, Option, Some}
use Rattle.text.specs.Lossy.{lossy}
use Rattle.sheet.specs.declared.fields.Span.{Span}
use Rattle.sheet.specs.declared.names.ImportPhase.{ImportPhase}
use Rattle.sheet.specs.declared.names.ImportPhase.TheVariants.{Evaluation, Source, Defer}
use Rattle.sheet.specs.Tree.{Quoted, Arguments, no_arguments, argument}
use Rattle.sheet.specs.Shape.{shape, is_augmentation}
use Rattle.report.specs.declared.names.StaticDependencyKind.{StaticDependencyKind}
use Rattle.report.specs.declared.names.StaticDependencyKind.TheVariants as statics
use Rattle.report.specs.declared.names.DynamicDependencyKind.{DynamicDependencyKind}
use Rattle.report.specs.declared.names.DynamicDependencyKind.TheVariants as dynamics
use Rattle.report.specs.ModuleInfo.{SpecifierWithRange, ImportAttributes, DependencyDescriptor, static, dynamic}
use Rattle.report.specs.ModuleInfo as info
use Rattle.report.specs.Range.{range_of}
use Rattle.attributes.specs.Attributes.{dynamic_attributes}
use Rattle.arguments.specs.Argument.{argument_of, single_text}

-- the kind of an import, by its flag type-only and its phase
abbrev pub import_kind : Bool → ImportPhase → StaticDependencyKind
import_kind true phase = statics.ImportType
import_kind false Evaluation = statics.Import
import_kind false Source = statics.ImportSource
import_kind false Defer = statics.ImportDefer

-- of an export, by its flag type-only
abbrev pub export_kind : Bool → StaticDependencyKind
export_kind type_only = cond type_only statics.ExportType statics.Export

-- of an import equals, by its flags type-only and export
abbrev pub equals_kind : Bool → Bool → StaticDependencyKind
equals_kind type_only export = cond type_only statics.ImportType (cond export statics.ExportEquals statics.ImportEquals)

-- of an import call, by its phase
abbrev pub dynamic_kind : ImportPhase → DynamicDependencyKind
dynamic_kind Evaluation = dynamics.Import
dynamic_kind Source = dynamics.ImportSource
dynamic_kind Defer = dynamics.ImportDefer

-- the single text of a call's first argument
abbrev pub first_text : Arguments → Option (List ℕ)
first_text no_arguments = None
first_text (argument dots at n xs) = single_text (shape n)

-- the text of a String, if there is one
abbrev pub text_in : Option Quoted → Option (List ℕ)
text_in None = None
text_in (Some x) = Some x.text

-- a dependency, with where its node starts and the number of surrogates replaced in its text
pub record Noted : Type 0 where
  pub entry : DependencyDescriptor
  pub start : ℕ
  pub number : ℕ

-- each with that start and number
abbrev pub beside : ℕ → ℕ → List DependencyDescriptor → List Noted
beside start number [] = []
beside start number (d ∷ l) = record { entry = d; start = start; number = number } ∷ beside start number l

-- over a source, with the types that a comment before a place gives to the node that starts there
module _ (source : List ℕ) (types : ℕ → Option SpecifierWithRange) where
  -- a static entry of a node with that span, by its String
  unfoldable pub static_entry : StaticDependencyKind → Span → Quoted → Bool → ImportAttributes → DependencyDescriptor
  static_entry kind sp x side_effect a =
      static
      (record {
        kind = kind;
        types_specifier = types sp.start;
        specifier = record { text = lossy x.text; range = range_of source x.span };
        side_effect = side_effect;
        import_attributes = a;
      })

  -- the entry of a call, by its first argument
  unfoldable pub call_entry : DynamicDependencyKind → Span → Arguments → List DependencyDescriptor
  call_entry kind sp no_arguments = []
  call_entry kind sp (argument dots at n xs) =
      dynamic
      (record {
        kind = kind;
        types_specifier = types sp.start;
        argument = argument_of n;
        argument_range = range_of source at;
        import_attributes = dynamic_attributes xs;
      })
      ∷ []

  -- the entry of a module declaration, by its String
  unfoldable pub module_entry : Span → Option Quoted → List DependencyDescriptor
  module_entry sp None = []
  module_entry sp (Some x) = cond (is_augmentation x.text) (static_entry statics.MaybeTsModuleAugmentation sp x false info.none ∷ []) []
