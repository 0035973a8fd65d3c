-- The dependencies of a tree: `DependencyCollector` of src/ast/dep.rs, entry by entry. Their order is that of the walk.
use Rattle.std.specs.Prelude.{false, cond, ℕ}
use mathlib.Core.List.{List, [], ◌∷◌, ◌++◌, map, flat_map}
use Rattle.std.specs.Prelude.{Option, Some}
use Rattle.sheet.specs.Tree.{Node}
use Rattle.sheet.specs.Shape.{shape, is_require}
use Rattle.sheet.specs.Walk.{Visit, called, importing, expression, imported, exported, typed, required, declared, start_of, Collector, walk}
use Rattle.report.specs.declared.names.StaticDependencyKind.TheVariants as statics
use Rattle.report.specs.declared.names.DynamicDependencyKind.TheVariants as dynamics
use Rattle.report.specs.ModuleInfo.{SpecifierWithRange, DependencyDescriptor}
use Rattle.report.specs.ModuleInfo as info
use Rattle.attributes.specs.Attributes.{static_attributes, type_attributes}
use Rattle.arguments.specs.Argument.{replaced_in}
use Rattle.dep_entries.specs.Entries.{import_kind, export_kind, equals_kind, dynamic_kind, first_text, text_in, Noted, beside, static_entry, call_entry}
use Rattle.dep_entries.specs.Entries.{module_entry}

-- the text of a visit's entry as the sheet has it, in WTF-8: that of its String, or the single one of its argument
abbrev pub text_of : Visit → Option (List ℕ)
text_of (called sp e xs) = first_text xs
text_of (imported sp type_only phase side_effect x a) = Some x.text
text_of (exported sp type_only x a) = Some x.text
text_of (typed sp x a) = Some x.text
text_of (required sp type_only export x) = Some x.text
text_of (declared sp x) = text_in x

-- a row of two numbers for each
abbrev pub numbers_of : List Noted → List ℕ
numbers_of = flat_map (λ e. e.start ∷ e.number ∷ [])

abbrev pub starts_of : List Noted → List ℕ
starts_of = map (λ e. e.start)

-- over a source, with the types that a comment before a place gives to the node that starts there
module _ (source : List ℕ) (types : ℕ → Option SpecifierWithRange) where
  -- the entry of a visit, if it gives one
  abbrev pub entry_of : Visit → List DependencyDescriptor
  entry_of (called sp (importing phase) xs) = call_entry source types (dynamic_kind phase) sp xs
  entry_of (called sp (expression e) xs) = cond (is_require (shape e)) (call_entry source types dynamics.Require sp xs) []
  entry_of (imported sp type_only phase side_effect x a) = static_entry source types (import_kind type_only phase) sp x side_effect (static_attributes a) ∷ []
  entry_of (exported sp type_only x a) = static_entry source types (export_kind type_only) sp x false (static_attributes a) ∷ []
  entry_of (typed sp x a) = static_entry source types statics.ImportType sp x false (type_attributes a) ∷ []
  entry_of (required sp type_only export x) = static_entry source types (equals_kind type_only export) sp x false info.none ∷ []
  entry_of (declared sp x) = module_entry source types sp x

  -- `DependencyCollector`: entries one after the other
  unfoldable pub collector : Collector (List DependencyDescriptor)
  collector = record { nothing = []; both = ◌++◌; own = entry_of }

  -- the dependencies of a node
  abbrev pub collect : Node → List DependencyDescriptor
  collect = walk collector

  -- the same with the start and the number of each
  unfoldable pub noting : Collector (List Noted)
  noting = record { nothing = []; both = ◌++◌; own = λ v. beside (start_of v) (replaced_in (text_of v)) (entry_of v) }

  abbrev pub collect_noted : Node → List Noted
  collect_noted = walk noting
