-- The dependencies of a tree come from the visits in turn, each the entry of its visit.
use Rattle.std.specs.Prelude.{Some, None}
use Rattle.laws.proofs.Prelude.{◌≡◌, refl, Bool, true, false, cond, ◌&&◌, List, [], ◌∷◌, ◌++◌, Memᴰ, Memᴰ_head, Memᴰ_tail, Memᴰ_not_nil}
use Rattle.laws.proofs.Prelude.{Memᴰ_cases_cons, ⊎_elim, Option, ℕ, ◌≤◌, arith, length}
use mathlib.Core.Bool.{and-false}
use Rattle.laws.{specs.Codec.All, proofs.Lists.of_members}
use Rattle.sheet.{specs.declared.fields.Span.Span, specs.Walked.any_argument, proofs.Walks.walks_related}
use Rattle.sheet.specs.Tree.{Quoted, Node, Arguments, no_arguments, argument}
use Rattle.sheet.specs.Shape.{shape, is_require, is_augmentation}
use Rattle.sheet.specs.Walk.{Visit, called, importing, expression, imported, exported, typed, required, declared, start_of, visiting, visits}
use Rattle.report.specs.declared.names.StaticDependencyKind.TheVariants as statics
use Rattle.report.specs.declared.names.DynamicDependencyKind.TheVariants as dynamics
use Rattle.report.specs.ModuleInfo.{SpecifierWithRange, DependencyDescriptor}
use Rattle.report.specs.ModuleInfo as info
use Rattle.pragmas.specs.Texts.{types_of}
use Rattle.arguments.specs.Argument.{replaced_in}
use Rattle.dep_entries.specs.Entries.{Noted, beside, static_entry, call_entry, module_entry}
use Rattle.dep.specs.Collect.{text_of, entry_of, collector, collect, noting, collect_noted}
use Rattle.dep.specs.InTurn.{InTurn, nothing, entry, passed}

-- what is so of an entry and its visit, with the visit's start and number
pub record BesideTurn (P : Visit → DependencyDescriptor → Type 0) (v : Visit) (e : Noted) : Type 0 where
  pub own : P v e.entry
  pub start : e.start ≡ start_of v
  pub number : e.number ≡ replaced_in (text_of v)

turns_append : {A : Type 0} {P : Visit → A → Type 0} {vs ws : List Visit} {l m : List A} → InTurn P vs l → InTurn P ws m → InTurn P (vs ++ ws) (l ++ m)
turns_append nothing q = q
turns_append (entry g h p) q = entry g h (turns_append p q)
turns_append (passed g p) q = passed g (turns_append p q)

-- each dependency is that of a visit
pub turn_member : {A : Type 0} {P : Visit → A → Type 0} {vs : List Visit} {l : List A} → InTurn P vs l → {d : A} → Memᴰ d l
    → (v : Visit) × P v d
turn_member nothing m = absurd (Memᴰ_not_nil m)
turn_member (entry {v = v} g h p) m = ⊎_elim (λ e. (v, rw e h)) (λ i. turn_member p i) (Memᴰ_cases_cons m)
turn_member (passed g p) m = turn_member p m

-- there are no more of them than visits
pub turns_few : {A : Type 0} {P : Visit → A → Type 0} {vs : List Visit} {l : List A} → InTurn P vs l → length l ≤ length vs
turns_few nothing = omega arith
turns_few (entry g h p) = omega (arith, turns_few p)
turns_few (passed g p) = omega (arith, turns_few p)

-- what is known of visits that are made can be used of their entries
pub turns_with : {A : Type 0} {P Q : Visit → A → Type 0} {vs : List Visit} {l : List A} → InTurn P vs l
    → ((v : Visit) → Memᴰ v vs → (d : A) → P v d → Q v d) → InTurn Q vs l
turns_with nothing f = nothing
turns_with (entry {v = v} {d = d} g h p) f = entry g (f v (Memᴰ_head refl) d h) (turns_with p (λ w i. f w (Memᴰ_tail i)))
turns_with (passed g p) f = passed g (turns_with p (λ w i. f w (Memᴰ_tail i)))

-- an entry with the start and the number of its visit
beside_turn : {P : Visit → DependencyDescriptor → Type 0} {v : Visit} {l : List DependencyDescriptor} → InTurn P (v ∷ []) l
    → InTurn (BesideTurn P) (v ∷ []) (beside (start_of v) (replaced_in (text_of v)) l)
beside_turn (entry g h nothing) = entry g (record { own = h; start = refl; number = refl }) nothing
beside_turn (passed g nothing) = passed g nothing

module _ (source : List ℕ) (types : ℕ → Option SpecifierWithRange) (P : Visit → DependencyDescriptor → Type 0)
    (holds : (v : Visit) (d : DependencyDescriptor) → entry_of source types v ≡ d ∷ [] → types_of d ≡ types (start_of v) → P v d) where
  call_turn : (sp : Span) (e : Node) (b : Bool) → is_require (shape e) ≡ b → (xs : Arguments)
      → InTurn P (called sp (expression e) xs ∷ []) (cond b (call_entry source types dynamics.Require sp xs) [])
  unfolding call_entry
  call_turn sp e true is no_arguments = passed (and-false (is_require (shape e))) nothing
  call_turn sp e true is (argument dots at n xs) =
      let v = called sp (expression e) (argument dots at n xs) in
      let g : is_require (shape e) && true ≡ true = rw is in
      let i : entry_of source types v ≡ call_entry source types dynamics.Require sp (argument dots at n xs) = rw is in
      entry g (holds v _ i refl) nothing
  call_turn sp e false is xs = let g : is_require (shape e) && any_argument xs ≡ false = rw is in passed g nothing

  module_turn : (sp : Span) (x : Quoted) (b : Bool) → is_augmentation x.text ≡ b
      → InTurn P (declared sp (Some x) ∷ []) (cond b (static_entry source types statics.MaybeTsModuleAugmentation sp x false info.none ∷ []) [])
  unfolding static_entry module_entry
  module_turn sp x true is =
      let v = declared sp (Some x) in
      let i : entry_of source types v ≡ static_entry source types statics.MaybeTsModuleAugmentation sp x false info.none ∷ [] = rw is in
      entry is (holds v _ i refl) nothing
  module_turn sp x false is = passed is nothing

  own_turn : (v : Visit) → InTurn P (v ∷ []) (entry_of source types v)
  unfolding static_entry call_entry module_entry
  own_turn (called sp (importing phase) no_arguments) = passed refl nothing
  own_turn (called sp (importing phase) (argument dots at n xs)) = entry refl (holds _ _ refl refl) nothing
  own_turn (called sp (expression e) xs) = call_turn sp e (is_require (shape e)) refl xs
  own_turn (imported sp type_only phase side_effect x a) = entry refl (holds _ _ refl refl) nothing
  own_turn (exported sp type_only x a) = entry refl (holds _ _ refl refl) nothing
  own_turn (typed sp x a) = entry refl (holds _ _ refl refl) nothing
  own_turn (required sp type_only export x) = entry refl (holds _ _ refl refl) nothing
  own_turn (declared sp None) = passed refl nothing
  own_turn (declared sp (Some x)) = module_turn sp x (is_augmentation x.text) refl

  pub collect_turns : (n : Node) → InTurn P (visits n) (collect source types n)
  unfolding collector
  collect_turns = walks_related (λ l vs. InTurn P vs l) (collector source types) visiting
      (record { nothing = nothing; both = λ p q. turns_append p q; own = own_turn })

  pub noted_turns : (n : Node) → InTurn (BesideTurn P) (visits n) (collect_noted source types n)
  unfolding noting
  noted_turns = walks_related (λ l vs. InTurn (BesideTurn P) vs l) (noting source types) visiting
      (record { nothing = nothing; both = λ p q. turns_append p q; own = λ v. beside_turn (own_turn v) })

-- each dependency that is noted has the types that are given at its start
pub types_at_start : (source : List ℕ) (types : ℕ → Option SpecifierWithRange) (n : Node)
    → All (λ e. types_of e.entry ≡ types e.start) (collect_noted source types n)
types_at_start source types n =
    of_members (λ e. types_of e.entry ≡ types e.start) (collect_noted source types n) (λ e m.
    let (v, h) = turn_member (noted_turns source types (λ v d. types_of d ≡ types (start_of v)) (λ v d is same. same) n) m in
    rw h.start h.own)
