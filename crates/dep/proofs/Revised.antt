-- The dependencies of a tree are the entries of its visits, one after the other; the entry of a visit goes by the range that it reports and the types at its
-- start, and the rows beside them by the tree alone.
use Rattle.std.specs.Prelude.{Some, None}
use Rattle.laws.proofs.Prelude.{◌≡◌, refl, sym, ap, ◌∙◌, cond, List, [], ◌∷◌, append-nil, flat_map, Option, ℕ, arith, length}
use Rattle.laws.proofs.Lists.{flat_map_append}
use Rattle.sheet.{specs.declared.fields.Span.Span, specs.Shape.shape, specs.Shape.is_require, proofs.VisitSpans.OfFirst, proofs.VisitSpans.Reported}
use Rattle.sheet.specs.Tree.{Node, Arguments, no_arguments, argument}
use Rattle.sheet.specs.Walk.{Visit, called, importing, expression, imported, exported, typed, required, declared, start_of, visiting, visits}
use Rattle.sheet.proofs.Walks.{walks_related}
use Rattle.report.specs.{declared.names.DynamicDependencyKind.DynamicDependencyKind, ModuleInfo.SpecifierWithRange, ModuleInfo.DependencyDescriptor}
use Rattle.report.specs.declared.names.DynamicDependencyKind.TheVariants as dynamics
use Rattle.report.specs.Range.{range_of}
use Rattle.arguments.specs.Argument.{replaced_in}
use Rattle.dep_entries.specs.Entries.{dynamic_kind, static_entry, call_entry, module_entry, beside}
use Rattle.dep.specs.Collect.{entry_of, collector, collect, text_of, numbers_of, noting, collect_noted}
use Rattle.dep.proofs.Counted.{entry_one}

pub collect_each : (source : List ℕ) (types : ℕ → Option SpecifierWithRange) (n : Node) → collect source types n ≡ flat_map (entry_of source types) (visits n)
unfolding collector flat_map
collect_each source types =
    walks_related (λ l vs. l ≡ flat_map (entry_of source types) vs) (collector source types) visiting
    (record { nothing = refl; both = λ {a} {b} {x} {y} e f. rw (e, f, flat_map_append (entry_of source types) x y); own = λ v. rw append-nil })

-- a span has the same range in two sources
abbrev pub SameRange : List ℕ → List ℕ → Span → Type 0
SameRange s r sp = range_of s sp ≡ range_of r sp

-- the rows beside as many entries
rows_beside : (start number : ℕ) (l m : List DependencyDescriptor) → length l ≡ length m
    → numbers_of (beside start number l) ≡ numbers_of (beside start number m)
unfolding flat_map
rows_beside start number [] [] e = refl
rows_beside start number [] (d ∷ m) e = absurd (omega arith)
rows_beside start number (d ∷ l) [] e = absurd (omega arith)
rows_beside start number (d ∷ l) (d' ∷ m) e = rw (rows_beside start number l m (omega arith))

module _ (s r : List ℕ) (types types' : ℕ → Option SpecifierWithRange) where
  call_kept : (kind : DynamicDependencyKind) (sp : Span) (xs : Arguments) → OfFirst (SameRange s r) xs → types sp.start ≡ types' sp.start
      → call_entry s types kind sp xs ≡ call_entry r types' kind sp xs
  unfolding call_entry
  call_kept kind sp no_arguments h e = refl
  call_kept kind sp (argument dots at n xs) h e = rw (h, e)

  pub entry_kept : (v : Visit) → Reported (SameRange s r) v → types (start_of v) ≡ types' (start_of v) → entry_of s types v ≡ entry_of r types' v
  unfolding static_entry module_entry
  entry_kept (called sp (importing phase) xs) h e = call_kept (dynamic_kind phase) sp xs h e
  entry_kept (called sp (expression n) xs) h e = ap (λ (l : List DependencyDescriptor). cond (is_require (shape n)) l []) (call_kept dynamics.Require sp xs h e)
  entry_kept (imported sp type_only phase side_effect x a) h e = rw (h, e)
  entry_kept (exported sp type_only x a) h e = rw (h, e)
  entry_kept (typed sp x a) h e = rw (h, e)
  entry_kept (required sp type_only export x) h e = rw (h, e)
  entry_kept (declared sp None) h e = refl
  entry_kept (declared sp (Some x)) h e = rw (h, e)

  -- the rows go by the tree alone
  pub rows_kept : (n : Node) → numbers_of (collect_noted s types n) ≡ numbers_of (collect_noted r types' n)
  unfolding noting flat_map
  rows_kept =
      walks_related (λ l m. numbers_of l ≡ numbers_of m) (noting s types) (noting r types')
      (record {
        nothing = refl;
        both = λ {a} {b} {x} {y} e f. rw (flat_map_append _ a b, flat_map_append _ x y, e, f);
        own = λ v. rows_beside (start_of v) (replaced_in (text_of v)) (entry_of s types v) (entry_of r types' v)
            (entry_one s types v ∙ sym (entry_one r types' v));
      })
