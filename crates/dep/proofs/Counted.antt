-- There are as many dependencies as the check of the tree counts.
use Rattle.std.specs.Prelude.{Some, None}
use Rattle.laws.proofs.Prelude.{◌≡◌, refl, sym, ap, ◌∙◌, Bool, true, false, cond, ◌&&◌, List, [], ◌∷◌, ◌++◌, map, flat_map, Option, ℕ, arith, length}
use Rattle.laws.proofs.Prelude.{length-append}
use mathlib.Core.List.{map-append}
use Rattle.text.specs.Truth.{one}
use Rattle.wire.specs.Number.{encode_number}
use Rattle.sheet.{specs.code.Commented.Commented, specs.declared.fields.Span.Span, proofs.Walks.walks_related}
use Rattle.sheet.specs.Tree.{Quoted, Node, Arguments, no_arguments, argument}
use Rattle.sheet.specs.Shape.{shape, is_require, is_augmentation}
use Rattle.sheet.specs.Walk.{Visit, called, importing, expression, imported, exported, typed, required, declared, start_of}
use Rattle.sheet.specs.Walked.{declares, gives, any_argument, counting, entries}
use Rattle.report.specs.declared.names.StaticDependencyKind.TheVariants as statics
use Rattle.report.specs.{declared.names.DynamicDependencyKind.DynamicDependencyKind, ModuleInfo.SpecifierWithRange, ModuleInfo.DependencyDescriptor}
use Rattle.report.specs.declared.names.DynamicDependencyKind.TheVariants as dynamics
use Rattle.report.specs.ModuleInfo as info
use Rattle.report.{specs.Encode.encode_list, specs.Encode.encode_dependency, specs.Buffer.Written, specs.Buffer.more, proofs.Buffers.more_append}
use Rattle.arguments.specs.Argument.{replaced_in}
use Rattle.dep_entries.specs.{code.Notes.all_noted, code.Written.types_of, code.Written.Collected, code.Written.with_entries}
use Rattle.dep_entries.specs.Entries.{dynamic_kind, static_entry, call_entry, module_entry, Noted, beside}
use Rattle.dep.specs.code.Walk.{after_node, with_dependencies}
use Rattle.dep.specs.Collect.{entry_of, collector, collect, text_of, noting, collect_noted}

module _ (source : List ℕ) (types : ℕ → Option SpecifierWithRange) where
  call_one : (kind : DynamicDependencyKind) (sp : Span) (xs : Arguments) → length (call_entry source types kind sp xs) ≡ one (any_argument xs)
  unfolding call_entry
  call_one kind sp no_arguments = refl
  call_one kind sp (argument dots at n xs) = refl

  listed_one : (b : Bool) (kind : DynamicDependencyKind) (sp : Span) (xs : Arguments) →
      length (cond b (call_entry source types kind sp xs) []) ≡ one (b && any_argument xs)
  listed_one true kind sp xs = call_one kind sp xs
  listed_one false kind sp xs = refl

  module_one : (sp : Span) (x : Option Quoted) → length (module_entry source types sp x) ≡ one (declares x)
  unfolding module_entry
  module_one sp None = refl
  module_one sp (Some x) = go (is_augmentation x.text)
    where
      go : (b : Bool) → length (cond b (static_entry source types statics.MaybeTsModuleAugmentation sp x false info.none ∷ []) []) ≡ one b
      go true = refl
      go false = refl

  pub entry_one : (v : Visit) → length (entry_of source types v) ≡ one (gives v)
  entry_one (called sp (importing phase) xs) = call_one (dynamic_kind phase) sp xs
  entry_one (called sp (expression e) xs) = listed_one (is_require (shape e)) dynamics.Require sp xs
  entry_one (imported sp type_only phase side_effect x a) = refl
  entry_one (exported sp type_only x a) = refl
  entry_one (typed sp x a) = refl
  entry_one (required sp type_only export x) = refl
  entry_one (declared sp x) = module_one sp x

  pub counted : (n : Node) → length (collect source types n) ≡ entries n
  unfolding collector
  counted = walks_related (λ l n. length l ≡ n) (collector source types) counting
      (record { nothing = refl; both = λ e f. rw (length-append, e, f); own = entry_one })

  -- the rows stand beside the dependencies
  beside_first : (start number : ℕ) (l : List DependencyDescriptor) → map (λ e. e.entry) (beside start number l) ≡ l
  beside_first start number [] = refl
  beside_first start number (d ∷ l) = ap (d ∷◌) (beside_first start number l)

  pub noted_first : (n : Node) → map (λ e. e.entry) (collect_noted source types n) ≡ collect source types n
  unfolding collector noting
  noted_first = walks_related (λ l m. map (λ e. e.entry) l ≡ m) (noting source types) (collector source types)
      (record {
        nothing = refl;
        both = λ {a} {b} e f. rw (map-append (λ (e : Noted). e.entry) a b, e, f);
        own = λ v. beside_first (start_of v) (replaced_in (text_of v)) (entry_of source types v);
      })

  -- a node without entries
  pub noted_none : (n : Node) → entries n ≡ 0 → collect_noted source types n ≡ []
  noted_none n none = go (collect_noted source types n) (ap length (noted_first n) ∙ counted n ∙ none)
    where
      go : (l : List Noted) → length (map (λ e. e.entry) l) ≡ 0 → l ≡ []
      go [] h = refl
      go (e ∷ l) h = absurd (omega arith)

  noted_bytes : (l : List Noted) → flat_map (λ e. encode_dependency e.entry) l ≡ flat_map encode_dependency (map (λ e. e.entry) l)
  unfolding flat_map
  noted_bytes [] = refl
  noted_bytes (e ∷ l) = ap (encode_dependency e.entry ++◌) (noted_bytes l)

-- the number of a tree's dependencies, and then their entries
pub program_written : (c : Commented) (w : Collected) (n : Node) {count : ℕ} → count ≡ entries n → {w1 : Written} → w1 ≡ more w.written (encode_number count)
    → after_node c (record w { written = w1 }) n ≡ with_dependencies c w n
unfolding encode_list with_entries
program_written c w n as_many number_first =
    let types = types_of c in
    let l = collect_noted c.source types n in
    let bytes = noted_bytes c.source types l ∙ ap (flat_map encode_dependency) (noted_first c.source types n) in
    ap (λ (v : Written). record { writer = w.writer; written = v; loan = w.loan; notes = all_noted w.notes l })
    (ap (λ w. more w (flat_map (λ e. encode_dependency e.entry) l)) number_first
    ∙ rw (bytes, as_many, ← counted c.source types n)
    (sym (more_append w.written (encode_number (length (collect c.source types n))) (flat_map encode_dependency (collect c.source types n)))))
