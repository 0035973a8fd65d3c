-- The entries of small trees in an empty source, as the definitions compute: which nodes give one, its kind and its text, and their order.
use Rattle.std.specs.Prelude.{Some, None}
use Rattle.laws.proofs.Prelude.{◌≡◌, refl, true, false, List, [], ◌∷◌, map, ℕ}
use Rattle.laws.specs.Ascii.{ascii}
use Rattle.text.specs.{Bytes.begins, Bytes.same, Utf8.admits, Lossy.replacing}
use Rattle.sheet.specs.declared.fields.Span.{Span}
use Rattle.sheet.specs.declared.names.ImportPhase.TheVariants.{Evaluation, Source, Defer}
use Rattle.sheet.specs.Tree.{Quoted, Node, other, string, name, object, import_call, call, import_decl, named_export, export_from, export_all, import_type}
use Rattle.sheet.specs.Tree.{import_equals, import_require, module_decl, Nodes, none, more, Arguments, no_arguments, argument, no_properties, child_key}
use Rattle.sheet.specs.Tree.{name_key, without, with_object}
use Rattle.report.specs.declared.names.StaticDependencyKind.TheVariants as statics
use Rattle.report.specs.declared.names.DynamicDependencyKind.TheVariants as dynamics
use Rattle.report.specs.declared.names.DependencyKind.{DependencyKind, TheVariants.Static, TheVariants.Dynamic}
use Rattle.report.specs.ModuleInfo.{DynamicArgument, DependencyDescriptor, static, dynamic}
use Rattle.report.specs.ModuleInfo as info
use Rattle.arguments.specs.Argument.{chain, argument_of}
use Rattle.dep_entries.specs.Entries.{static_entry, call_entry, module_entry}
use Rattle.dep.specs.Collect.{collector, collect}

abbrev at : Span
at = record { start = 0; end = 0 }

abbrev quoted : List ℕ → Quoted
quoted x = record { span = at; text = x }

-- one argument; an import call of a String; what is called with a String
abbrev of : Node → Arguments
of n = argument false at n no_arguments

abbrev importing : List ℕ → Node
importing x = import_call at Evaluation (of (string at x)) none

abbrev calling : List ℕ → List ℕ → Node
calling f x = call at (name at f) (of (string at x)) none

abbrev one : Node → Nodes
one n = more n none

abbrev declaring : List ℕ → Node
declaring x = module_decl at (Some (quoted x)) none

-- kind and text of an entry; an argument that is no single text shows as `?`
abbrev shown : DynamicArgument → List ℕ
shown info.expr = ascii "?"
shown (info.string x) = x
shown (info.template l) = ascii "?"

abbrev entry : DependencyDescriptor → DependencyKind × List ℕ
entry (static d) = (Static d.kind, d.specifier.text)
entry (dynamic d) = (Dynamic d.kind, shown d.argument)

abbrev a : List ℕ
a = ascii "a"

abbrev b : List ℕ
b = ascii "b"

abbrev c : List ℕ
c = ascii "c"

-- nodes that give no entry, and kinds
abbrev kinds : List (Node × List (DependencyKind × List ℕ))
kinds =
    (import_decl at false Evaluation false (quoted a) without, (Static statics.Import, a) ∷ [])
    ∷ (import_decl at false Defer false (quoted a) without, (Static statics.ImportDefer, a) ∷ [])
    ∷ (import_decl at false Source false (quoted a) without, (Static statics.ImportSource, a) ∷ [])
    ∷ (import_decl at true Source false (quoted a) without, (Static statics.ImportType, a) ∷ [])
    ∷ (import_type at (quoted a) none without, (Static statics.ImportType, a) ∷ [])
    ∷ (import_require at true true (quoted a), (Static statics.ImportType, a) ∷ [])
    ∷ (import_require at false false (quoted a), (Static statics.ImportEquals, a) ∷ [])
    ∷ (export_from at false (quoted a) without, (Static statics.Export, a) ∷ [])
    ∷ (export_all at false (quoted a) without, (Static statics.Export, a) ∷ [])
    ∷ (export_from at true (quoted a) without, (Static statics.ExportType, a) ∷ [])
    ∷ (export_all at true (quoted a) without, (Static statics.ExportType, a) ∷ [])
    ∷ (import_require at false true (quoted a), (Static statics.ExportEquals, a) ∷ [])
    ∷ (declaring a, (Static statics.MaybeTsModuleAugmentation, a) ∷ [])
    ∷ (importing a, (Dynamic dynamics.Import, a) ∷ [])
    ∷ (import_call at Defer (of (string at a)) none, (Dynamic dynamics.ImportDefer, a) ∷ [])
    ∷ (import_call at Source (of (name at a)) none, (Dynamic dynamics.ImportSource, ascii "?") ∷ [])
    ∷ (calling (ascii "require") a, (Dynamic dynamics.Require, a) ∷ [])
    ∷ (calling (ascii "required") a, [])
    ∷ (import_call at Evaluation no_arguments none, [])
    ∷ (named_export at false, [])
    ∷ (import_equals at, [])
    ∷ (module_decl at None none, [])
    ∷ (declaring (ascii "*.css"), [])
    ∷ (declaring (ascii "../*"), (Static statics.MaybeTsModuleAugmentation, ascii "../*") ∷ [])
    ∷ []

-- a call stands behind all that is in it: its callee, its arguments, its further children; an import type and a module declaration before
abbrev orders : List (Node × List (DependencyKind × List ℕ))
orders =
    (import_call at Evaluation (of (importing a)) none, (Dynamic dynamics.Import, a) ∷ (Dynamic dynamics.Import, ascii "?") ∷ [])
    ∷ (
      import_call at Evaluation (argument false at (string at c) (of (importing a))) (one (importing b)),
      (Dynamic dynamics.Import, a) ∷ (Dynamic dynamics.Import, b) ∷ (Dynamic dynamics.Import, c) ∷ [],
    )
    ∷ (
      call at (importing a) (of (importing b)) (one (importing c)),
      (Dynamic dynamics.Import, a) ∷ (Dynamic dynamics.Import, b) ∷ (Dynamic dynamics.Import, c) ∷ [],
    )
    ∷ (call at (name at (ascii "require")) (of (calling (ascii "require") a)) none, (Dynamic dynamics.Require, a) ∷ (Dynamic dynamics.Require, ascii "?") ∷ [])
    ∷ (
      import_type at (quoted a) (one (importing b)) (with_object at (name_key a (importing c) no_properties)),
      (Static statics.ImportType, a) ∷ (Dynamic dynamics.Import, b) ∷ (Dynamic dynamics.Import, c) ∷ [],
    )
    ∷ (module_decl at (Some (quoted a)) (one (importing b)), (Static statics.MaybeTsModuleAugmentation, a) ∷ (Dynamic dynamics.Import, b) ∷ [])
    ∷ (module_decl at (Some (quoted (ascii "*"))) (one (importing b)), (Dynamic dynamics.Import, b) ∷ [])
    ∷ (object at (child_key (importing a) (importing b) no_properties), (Dynamic dynamics.Import, a) ∷ (Dynamic dynamics.Import, b) ∷ [])
    ∷ (other at (more (importing a) (one (importing b))), (Dynamic dynamics.Import, a) ∷ (Dynamic dynamics.Import, b) ∷ [])
    ∷ []

abbrev computed : Node × List (DependencyKind × List ℕ) → Node × List (DependencyKind × List ℕ)
computed (n, l) = (n, map entry (collect [] (λ start. None) n))

kinds_as_stated : map computed kinds ≡ kinds
unfolding begins same admits replacing chain argument_of static_entry call_entry module_entry collector
kinds_as_stated = refl

orders_as_stated : map computed orders ≡ orders
unfolding begins same admits replacing chain argument_of static_entry call_entry module_entry collector
orders_as_stated = refl
