-- The kinds of references, arguments and attributes in the order of their numbers, as a report is read.
use Rattle.std.specs.Prelude.{[], ◌∷◌}
use Rattle.wire.specs.Fields.{Values}
use Rattle.report.specs.declared.names.ReferenceKind.{ReferenceKind}
use Rattle.report.specs.declared.names.ReferenceKind.TheVariants.{Path, Types}
use Rattle.report.specs.declared.names.ArgumentKind.{ArgumentKind}
use Rattle.report.specs.declared.names.ArgumentKind.TheVariants.{Expr, String, Template}
use Rattle.report.specs.declared.names.AttributesKind.{AttributesKind}
use Rattle.report.specs.declared.names.AttributesKind.TheVariants as attributes

abbrev pub reference_kinds : Values ReferenceKind
reference_kinds = record { front = Path ∷ []; last = Types }

abbrev pub argument_kinds : Values ArgumentKind
argument_kinds = record { front = Expr ∷ String ∷ []; last = Template }

abbrev pub attributes_kinds : Values AttributesKind
attributes_kinds = record { front = attributes.None ∷ attributes.Unknown ∷ []; last = attributes.Known }
