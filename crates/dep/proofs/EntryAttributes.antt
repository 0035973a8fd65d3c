-- The attributes of each entry are those that its node's properties should give.
use Rattle.std.specs.Prelude.{Some, None}
use Rattle.laws.proofs.Prelude.{◌≡◌, refl, Bool, true, false, cond, List, [], ◌∷◌, Option, ℕ}
use Rattle.laws.specs.Codec.{All}
use Rattle.sheet.specs.Tree.{no_arguments, argument}
use Rattle.sheet.specs.Shape.{shape, is_require, is_augmentation}
use Rattle.sheet.specs.Walk.{Visit, called, importing, expression, imported, exported, typed, required, declared}
use Rattle.report.specs.declared.names.StaticDependencyKind.TheVariants as statics
use Rattle.report.specs.declared.names.DynamicDependencyKind.TheVariants as dynamics
use Rattle.report.specs.ModuleInfo.{SpecifierWithRange, none, DependencyDescriptor}
use Rattle.attributes.proofs.ReadingsRight.{static_right, type_right, dynamic_right}
use Rattle.dep_entries.specs.Entries.{static_entry, call_entry, module_entry}
use Rattle.dep.specs.{Collect.entry_of, InTurn.attributes_of, InTurn.Attributed}

-- a list that is there or not
pub all_if : {A : Type 0} (P : A → Type 0) (b : Bool) (l : List A) → All P l → All P (cond b l [])
all_if P true l a = a
all_if P false l a = tt

module _ (source : List ℕ) (types : ℕ → Option SpecifierWithRange) where
  each_right : (v : Visit) → All (λ d. Attributed v (attributes_of d)) (entry_of source types v)
  unfolding static_entry call_entry module_entry
  each_right (called sp (importing phase) no_arguments) = tt
  each_right (called sp (importing phase) (argument dots at n xs)) = (dynamic_right xs, tt)
  each_right (called sp (expression e) no_arguments) = all_if _ (is_require (shape e)) [] tt
  each_right (called sp (expression e) (argument dots at n xs)) = all_if _ (is_require (shape e))
      (call_entry source types dynamics.Require sp (argument dots at n xs)) (dynamic_right xs, tt)
  each_right (imported sp type_only phase side_effect x a) = (static_right a, tt)
  each_right (exported sp type_only x a) = (static_right a, tt)
  each_right (typed sp x a) = (type_right a, tt)
  each_right (required sp type_only export x) = (refl, tt)
  each_right (declared sp None) = tt
  each_right (declared sp (Some x)) = all_if _ (is_augmentation x.text)
      (static_entry source types statics.MaybeTsModuleAugmentation sp x false none ∷ []) (refl, tt)

  pub attributes_right : (v : Visit) {d : DependencyDescriptor} → entry_of source types v ≡ d ∷ [] → Attributed v (attributes_of d)
  attributes_right v {d} e = let a : All (λ d. Attributed v (attributes_of d)) (d ∷ []) = rw e at (each_right v) in a.0
