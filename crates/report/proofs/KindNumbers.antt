-- Each kind of a dependency has its own number.
use Rattle.laws.proofs.Prelude.{◌≡◌, refl}
use Rattle.wire.{specs.Fields.value_of, proofs.Numbered.Numbers, proofs.Numbered.numbers}
use Rattle.report.specs.declared.names.StaticDependencyKind.TheVariants as statics
use Rattle.report.specs.declared.names.DynamicDependencyKind.TheVariants as dynamics
use Rattle.report.specs.declared.names.DependencyKind.{DependencyKind, TheVariants.Static, TheVariants.Dynamic}
use Rattle.report.specs.Names.{dependency_number, dependency_kinds}

of_number : (kind : DependencyKind) → value_of dependency_kinds (dependency_number kind) ≡ kind
of_number (Static statics.Import) = refl
of_number (Static statics.ImportDefer) = refl
of_number (Static statics.ImportSource) = refl
of_number (Static statics.ImportType) = refl
of_number (Static statics.ImportEquals) = refl
of_number (Static statics.Export) = refl
of_number (Static statics.ExportType) = refl
of_number (Static statics.ExportEquals) = refl
of_number (Static statics.MaybeTsModuleAugmentation) = refl
of_number (Dynamic dynamics.Import) = refl
of_number (Dynamic dynamics.ImportDefer) = refl
of_number (Dynamic dynamics.ImportSource) = refl
of_number (Dynamic dynamics.Require) = refl

pub dependency_numbers : Numbers dependency_number dependency_kinds
dependency_numbers = numbers dependency_number dependency_kinds of_number refl
