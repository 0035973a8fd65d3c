-- Document 01's number of each kind of a dependency, and the kinds in this order.
use Rattle.std.specs.Prelude.{[], ◌∷◌, ℕ}
use Rattle.wire.specs.Fields.{Values}
use Rattle.report.specs.declared.names.StaticDependencyKind.{StaticDependencyKind}
use Rattle.report.specs.declared.names.StaticDependencyKind.TheVariants as statics
use Rattle.report.specs.declared.names.DynamicDependencyKind.{DynamicDependencyKind}
use Rattle.report.specs.declared.names.DynamicDependencyKind.TheVariants as dynamics
use Rattle.report.specs.declared.names.DependencyKind.{DependencyKind}
use Rattle.report.specs.declared.names.DependencyKind.TheVariants.{Static, Dynamic}

abbrev pub static_number : StaticDependencyKind → ℕ
static_number statics.Import = 0
static_number statics.ImportDefer = 1
static_number statics.ImportSource = 2
static_number statics.ImportType = 3
static_number statics.ImportEquals = 4
static_number statics.Export = 5
static_number statics.ExportType = 6
static_number statics.ExportEquals = 7
static_number statics.MaybeTsModuleAugmentation = 8

abbrev pub dynamic_number : DynamicDependencyKind → ℕ
dynamic_number dynamics.Import = 9
dynamic_number dynamics.ImportDefer = 10
dynamic_number dynamics.ImportSource = 11
dynamic_number dynamics.Require = 12

abbrev pub dependency_number : DependencyKind → ℕ
dependency_number (Static kind) = static_number kind
dependency_number (Dynamic kind) = dynamic_number kind

abbrev pub dependency_kinds : Values DependencyKind
dependency_kinds = record {
  front =
      Static statics.Import
      ∷ Static statics.ImportDefer
      ∷ Static statics.ImportSource
      ∷ Static statics.ImportType
      ∷ Static statics.ImportEquals
      ∷ Static statics.Export
      ∷ Static statics.ExportType
      ∷ Static statics.ExportEquals
      ∷ Static statics.MaybeTsModuleAugmentation
      ∷ Dynamic dynamics.Import
      ∷ Dynamic dynamics.ImportDefer
      ∷ Dynamic dynamics.ImportSource
      ∷ [];
  last = Dynamic dynamics.Require;
}
