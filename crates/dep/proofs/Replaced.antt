-- The number beside a dependency is that of the surrogates of its one text.
use Rattle.std.specs.Prelude.{Some, None}
use Rattle.laws.proofs.Prelude.{◌≡◌, refl, sym, ◌∙◌, Bool, true, false, List, [], ◌∷◌, Option, ℕ, arith, eq-eqb}
use Rattle.laws.specs.Codec.{All}
use Rattle.text.{specs.Utf8.admits, specs.Utf8.surrogate, proofs.Replaced.exact_lossy, proofs.Reported.lossy_of}
use Rattle.text.specs.Lossy.{marking, counting, replacing, surrogates, lossy, replaced}
use Rattle.sheet.specs.Tree.{Node, no_arguments, argument}
use Rattle.sheet.specs.Shape.{Shape, text, named, pieces, operation, properties, anything, shape, is_require, is_augmentation}
use Rattle.sheet.specs.Walk.{Visit, called, importing, expression, imported, exported, typed, required, declared}
use Rattle.report.specs.declared.names.StaticDependencyKind.TheVariants as statics
use Rattle.report.specs.declared.names.DynamicDependencyKind.TheVariants as dynamics
use Rattle.report.specs.ModuleInfo.{SpecifierWithRange, none, string, DynamicTemplatePart, DynamicDependencyDescriptor, StaticDependencyDescriptor}
use Rattle.report.specs.ModuleInfo.{DependencyDescriptor, static, dynamic}
use Rattle.arguments.specs.Argument.{of_shape, argument_of, chain, single_text, replaced_in}
use Rattle.dep_entries.specs.Entries.{static_entry, call_entry, module_entry}
use Rattle.dep.specs.{Collect.text_of, Collect.entry_of, Replaced.Replaces, Replaced.NumberOf}
use Rattle.dep.proofs.EntryAttributes.{all_if}

-- a text that is reported as it is has no surrogate
as_it_is : (s : List ℕ) → lossy s ≡ s → replaced s ≡ 0
unfolding replacing surrogates admits
as_it_is [] e = refl
as_it_is (x ∷ s) e = go (admits surrogate (x ∷ s)) refl e (as_it_is s)
  where
    go : (b : Bool) → admits surrogate (x ∷ s) ≡ b → marking b x (λ n. replacing n s) ≡ x ∷ s → (lossy s ≡ s → replaced s ≡ 0) →
        counting b (λ n. surrogates n s) ≡ 0
    go true a e f =
        let other : 0xEF ≡ x = cc in
        let never : false ≡ true = rw (← other) at a in
        let z : ◌≡◌ {A = ℕ} 0 1 = cc in
        absurd (omega arith)
    go false a e f = let same : lossy s ≡ s = cc in f same

replaces : (x : List ℕ) → Replaces x (lossy x) (replaced x)
replaces x = record { count = λ points t. (lossy_of t).count; exact = (λ z. exact_lossy x (eq-eqb (replaced x) 0 z), as_it_is x) }

-- an argument is one text exactly where it has a single text
one_text : (s : Shape) (parts : Option (List DynamicTemplatePart)) {y : List ℕ} → of_shape s parts ≡ string y →
    (x : List ℕ) × (single_text s ≡ Some x) × (lossy x ≡ y)
one_text (text x) parts {y} e = let same : lossy x ≡ y = cc in (x, refl, same)
one_text (named x) parts e = let z : ◌≡◌ {A = ℕ} 0 1 = cc in absurd (omega arith)
one_text (pieces []) parts e = let z : ◌≡◌ {A = ℕ} 0 1 = cc in absurd (omega arith)
one_text (pieces (None ∷ [])) parts e = let z : ◌≡◌ {A = ℕ} 0 1 = cc in absurd (omega arith)
one_text (pieces (Some x ∷ [])) parts {y} e = let same : lossy x ≡ y = cc in (x, refl, same)
one_text (pieces (p ∷ q ∷ ps)) parts e = let z : ◌≡◌ {A = ℕ} 0 1 = cc in absurd (omega arith)
one_text (operation plus l r) None e = let z : ◌≡◌ {A = ℕ} 0 1 = cc in absurd (omega arith)
one_text (operation plus l r) (Some l') e = let z : ◌≡◌ {A = ℕ} 0 1 = cc in absurd (omega arith)
one_text (properties ps) parts e = let z : ◌≡◌ {A = ℕ} 0 1 = cc in absurd (omega arith)
one_text anything parts e = let z : ◌≡◌ {A = ℕ} 0 1 = cc in absurd (omega arith)

no_text : (s : Shape) (parts : Option (List DynamicTemplatePart)) → ((y : List ℕ) → of_shape s parts ≡ string y → ⊥) → replaced_in (single_text s) ≡ 0
no_text (text x) parts f = absurd (f (lossy x) refl)
no_text (named x) parts f = refl
no_text (pieces []) parts f = refl
no_text (pieces (None ∷ [])) parts f = refl
no_text (pieces (Some x ∷ [])) parts f = absurd (f (lossy x) refl)
no_text (pieces (p ∷ q ∷ ps)) parts f = refl
no_text (operation plus l r) parts f = refl
no_text (properties ps) parts f = refl
no_text anything parts f = refl

static_number_lem : {v : Visit} (x : List ℕ) {d : StaticDependencyDescriptor} → text_of v ≡ Some x → d.specifier.text ≡ lossy x →
    NumberOf v (static d) (replaced x)
static_number_lem x is reported = record { one = λ y e. (x, is, rw (← e, reported) (replaces x)); none = λ f. absurd (f _ refl) }

dynamic_number_lem : {v : Visit} (n : Node) {d : DynamicDependencyDescriptor} → text_of v ≡ single_text (shape n) → d.argument ≡ argument_of n
    → NumberOf v (dynamic d) (replaced_in (single_text (shape n)))
unfolding argument_of
dynamic_number_lem {v} n {d} is reported = record {
  one = λ y e. by_text (one_text (shape n) (chain n) (sym reported ∙ e));
  none = λ f. no_text (shape n) (chain n) (λ y e. f y (reported ∙ e));
}
  where
    by_text : {y : List ℕ} → (x : List ℕ) × (single_text (shape n) ≡ Some x) × (lossy x ≡ y)
        → (x : List ℕ) × (text_of v ≡ Some x) × Replaces x y (replaced_in (single_text (shape n)))
    by_text (x, single, same) = (x, is ∙ single, rw (single, ← same) (replaces x))

module _ (source : List ℕ) (types : ℕ → Option SpecifierWithRange) where
  each_number : (v : Visit) → All (λ d. NumberOf v d (replaced_in (text_of v))) (entry_of source types v)
  unfolding static_entry call_entry module_entry
  each_number (called sp (importing phase) no_arguments) = tt
  each_number (called sp (importing phase) (argument dots at n xs)) = (dynamic_number_lem n refl refl, tt)
  each_number (called sp (expression e) no_arguments) = all_if _ (is_require (shape e)) [] tt
  each_number (called sp (expression e) (argument dots at n xs)) = all_if _ (is_require (shape e))
      (call_entry source types dynamics.Require sp (argument dots at n xs)) (dynamic_number_lem n refl refl, tt)
  each_number (imported sp type_only phase side_effect x a) = (static_number_lem x.text refl refl, tt)
  each_number (exported sp type_only x a) = (static_number_lem x.text refl refl, tt)
  each_number (typed sp x a) = (static_number_lem x.text refl refl, tt)
  each_number (required sp type_only export x) = (static_number_lem x.text refl refl, tt)
  each_number (declared sp None) = tt
  each_number (declared sp (Some x)) = all_if _ (is_augmentation x.text)
      (static_entry source types statics.MaybeTsModuleAugmentation sp x false none ∷ []) (static_number_lem x.text refl refl, tt)

  pub number_right : (v : Visit) {d : DependencyDescriptor} → entry_of source types v ≡ d ∷ [] → NumberOf v d (replaced_in (text_of v))
  number_right v {d} e = let a : All (λ d. NumberOf v d (replaced_in (text_of v))) (d ∷ []) = rw e at (each_number v) in a.0
