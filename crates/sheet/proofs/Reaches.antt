-- The walk makes the visits that it should, in their order, and a node is refused by 9 exactly where one of them is a call that meets it.
use Rattle.std.specs.Prelude.{Some, None}
use Rattle.laws.proofs.Prelude.{◌≡◌, refl, sym, ap, ◌∙◌, Bool, true, false, cond, false≢true, and-eq-true_iff, ◌||◌, or-true, List, [], ◌∷◌, ◌++◌, append-nil}
use Rattle.laws.proofs.Prelude.{append_assoc, flat_map, Memᴰ, Memᴰ_head, Memᴰ_tail, Memᴰ_not_nil, Memᴰ_cases_cons, ◌↔◌, ⊎_elim, ◌⊎◌}
use Rattle.laws.proofs.Prelude.{inl, inr, Option, none-some}
use mathlib.Core.List.Memᴰ
use Rattle.laws.specs.{Codec.All, Ascii.ascii}
use Rattle.laws.proofs.Lists.{flat_map_append, all_append, all_member, of_members, PartOf, part_whole, part_inner, part_member, part_flat_map}
use Rattle.text.proofs.Words.{same_sound, same_refl}
use Rattle.sheet.specs.Tree.{Pieces, Node, other, string, name, template, binary, object, import_call, call, import_decl, named_export, export_from}
use Rattle.sheet.specs.Tree.{export_all, import_type, import_equals, import_require, module_decl, Nodes, none, more, Arguments, no_arguments, argument}
use Rattle.sheet.specs.Tree.{Properties, no_properties, spread, other_property, child_key, string_key, name_key, Attributes, without, with_object}
use Rattle.sheet.specs.Walk.{Visit, called, importing, expression, declared, walk_all, walk_of, walk_in, walk_with, total, visiting, visits}
use Rattle.sheet.specs.Shape.{Shape, text, named, pieces, operation, properties, anything, shape, is_require, is_uncooked, any_uncooked}
use Rattle.sheet.specs.Walked.{first_uncooked, refused, judging, uncooked}
use Rattle.sheet.specs.Reached.{nodes_in, arguments_in, properties_in, object_in, children, Walked, itself, child, own_visit, is_call, placed}
use Rattle.sheet.specs.Reached.{UncookedFirst, uncooked_first, MeetsNine, of_import, of_require}
use Rattle.sheet.specs.WalkRight.{Visited, visited, AllVisited, no_nodes, first, StandsAmong, WalkRight}
use Rattle.sheet.proofs.Walks.{uncooked_any}

-- induction over the children that are walked
module _ (P : Node → Type 0) (step : (n : Node) → All P (children n) → P n) where
  mutual
    pub by_children : (n : Node) → P n
    by_children (other sp ns) = step (other sp ns) (by_nodes ns)
    by_children (string sp x) = step (string sp x) tt
    by_children (name sp x) = step (name sp x) tt
    by_children (template sp ps ns) = step (template sp ps ns) (by_nodes ns)
    by_children (binary sp plus l r) = step (binary sp plus l r) (by_children l, (by_children r, tt))
    by_children (object sp ps) = step (object sp ps) (by_properties ps)
    by_children (import_call sp phase xs ns) = step (import_call sp phase xs ns) (all_append P (arguments_in xs) (nodes_in ns) (by_arguments xs) (by_nodes ns))
    by_children (call sp e xs ns) = step (call sp e xs ns) (by_children e, all_append P (arguments_in xs) (nodes_in ns) (by_arguments xs) (by_nodes ns))
    by_children (import_decl sp type_only phase side_effect x a) = step (import_decl sp type_only phase side_effect x a) tt
    by_children (named_export sp type_only) = step (named_export sp type_only) tt
    by_children (export_from sp type_only x a) = step (export_from sp type_only x a) tt
    by_children (export_all sp type_only x a) = step (export_all sp type_only x a) tt
    by_children (import_type sp x ns a) = step (import_type sp x ns a) (all_append P (nodes_in ns) (object_in a) (by_nodes ns) (by_object a))
    by_children (import_equals sp) = step (import_equals sp) tt
    by_children (import_require sp type_only export x) = step (import_require sp type_only export x) tt
    by_children (module_decl sp x ns) = step (module_decl sp x ns) (by_nodes ns)

    by_nodes : (ns : Nodes) → All P (nodes_in ns)
    by_nodes none = tt
    by_nodes (more n ns) = (by_children n, by_nodes ns)

    by_arguments : (xs : Arguments) → All P (arguments_in xs)
    by_arguments no_arguments = tt
    by_arguments (argument dots sp n xs) = (by_children n, by_arguments xs)

    by_properties : (ps : Properties) → All P (properties_in ps)
    by_properties no_properties = tt
    by_properties (spread n ps) = (by_children n, by_properties ps)
    by_properties (other_property n ps) = (by_children n, by_properties ps)
    by_properties (child_key k v ps) = (by_children k, (by_children v, by_properties ps))
    by_properties (string_key k v ps) = (by_children v, by_properties ps)
    by_properties (name_key k v ps) = (by_children v, by_properties ps)

    by_object : (a : Attributes) → All P (object_in a)
    by_object without = tt
    by_object (with_object sp ps) = (step (object sp ps) (by_properties ps), tt)

-- the visits of parts are those of the nodes in them
nodes_visits : (ns : Nodes) → walk_all visiting ns ≡ flat_map visits (nodes_in ns)
unfolding flat_map
nodes_visits none = refl
nodes_visits (more n ns) = ap (◌++◌ (visits n)) (nodes_visits ns)

arguments_visits : (xs : Arguments) → walk_of visiting xs ≡ flat_map visits (arguments_in xs)
unfolding flat_map
arguments_visits no_arguments = refl
arguments_visits (argument dots sp n xs) = ap (◌++◌ (visits n)) (arguments_visits xs)

properties_visits : (ps : Properties) → walk_in visiting ps ≡ flat_map visits (properties_in ps)
unfolding flat_map
properties_visits no_properties = refl
properties_visits (spread n ps) = ap (◌++◌ (visits n)) (properties_visits ps)
properties_visits (other_property n ps) = ap (◌++◌ (visits n)) (properties_visits ps)
properties_visits (child_key k v ps) = ap (λ l. visits k ++ (visits v ++ l)) (properties_visits ps)
properties_visits (string_key k v ps) = ap (◌++◌ (visits v)) (properties_visits ps)
properties_visits (name_key k v ps) = ap (◌++◌ (visits v)) (properties_visits ps)

object_visits : (a : Attributes) → walk_with visiting a ≡ flat_map visits (object_in a)
unfolding flat_map
object_visits without = refl
object_visits (with_object sp ps) = sym (append-nil (walk_in visiting ps))

-- the visits of a node are its own and those of its children, in their order
visits_placed : (n : Node) → visits n ≡ placed (own_visit n) (flat_map visits (children n))
unfolding flat_map
visits_placed (other sp ns) = nodes_visits ns
visits_placed (string sp x) = refl
visits_placed (name sp x) = refl
visits_placed (template sp ps ns) = nodes_visits ns
visits_placed (binary sp plus l r) = rw (append-nil (visits r))
visits_placed (object sp ps) = properties_visits ps
visits_placed (import_call sp phase xs ns) =
    rw (arguments_visits xs, nodes_visits ns, flat_map_append visits (arguments_in xs) (nodes_in ns), append_assoc)
visits_placed (call sp e xs ns) =
    rw (arguments_visits xs, nodes_visits ns, flat_map_append visits (arguments_in xs) (nodes_in ns)) (simp append_assoc)
visits_placed (import_decl sp type_only phase side_effect x a) = refl
visits_placed (named_export sp type_only) = refl
visits_placed (export_from sp type_only x a) = refl
visits_placed (export_all sp type_only x a) = refl
visits_placed (import_type sp x ns a) = rw (nodes_visits ns, object_visits a, flat_map_append visits (nodes_in ns) (object_in a))
visits_placed (import_equals sp) = refl
visits_placed (import_require sp type_only export x) = refl
visits_placed (module_decl sp x ns) = ap (λ l. declared sp x ∷ l) (nodes_visits ns)

-- members of what is made of the members of a list
flat_map_member : {A B : Type 0} (f : A → List B) (l : List A) {b : B} → Memᴰ b (flat_map f l) → (a : A) × Memᴰ a l × Memᴰ b (f a)
unfolding flat_map
flat_map_member f [] m = absurd (Memᴰ_not_nil m)
flat_map_member f (a ∷ l) {b} m =
    ⊎_elim (λ i. (a, Memᴰ_head refl, i)) (λ i. let (c, j, k) = flat_map_member f l i in (c, Memᴰ_tail j, k)) (Memᴰ.append_cases (f a) m)

-- a visit of a node is its own or one of a child's
placed_cases : (o : Option Visit) (l : List Visit) {v : Visit} → Memᴰ v (placed o l) → (o ≡ Some v) ⊎ Memᴰ v l
placed_cases None l m = inr m
placed_cases (Some w) l {v} m = go (is_call w) m
  where
    go : (b : Bool) → Memᴰ v (cond b (l ++ w ∷ []) (w ∷ l)) → (Some w ≡ Some v) ⊎ Memᴰ v l
    go true m = ⊎_elim (λ i. inr i) (λ i. inl (sym (ap (λ v. Some v) (Memᴰ.eq_of_singleton i)))) (Memᴰ.append_cases l m)
    go false m = ⊎_elim (λ e. inl (rw e)) (λ i. inr i) (Memᴰ_cases_cons m)

placed_own : (v : Visit) (l : List Visit) → Memᴰ v (placed (Some v) l)
placed_own v l = go (is_call v)
  where
    go : (b : Bool) → Memᴰ v (cond b (l ++ v ∷ []) (v ∷ l))
    go true = Memᴰ.append_right l (Memᴰ_head refl)
    go false = Memᴰ_head refl

placed_part : (o : Option Visit) (l : List Visit) → PartOf l (placed o l)
placed_part None l = part_whole l
placed_part (Some v) l = go (is_call v)
  where
    go : (b : Bool) → PartOf l (cond b (l ++ v ∷ []) (v ∷ l))
    go true = record { before = []; behind = v ∷ []; among = refl }
    go false = record { before = v ∷ []; behind = []; among = rw (append-nil l) }

-- what is reached from a child is reached
from_child : {n c m : Node} → Memᴰ c (children n) → Walked c m → Walked n m
from_child i itself = child itself i
from_child i (child w j) = child (from_child i w) j

-- each visit is that of a node that the walk reaches, and back
visit_walked : (n : Node) (v : Visit) → Memᴰ v (visits n) → (m : Node) × Walked n m × (own_visit m ≡ Some v)
visit_walked = by_children (λ n. (v : Visit) → Memᴰ v (visits n) → (m : Node) × Walked n m × (own_visit m ≡ Some v)) step
  where
    step : (n : Node) → All (λ c. (v : Visit) → Memᴰ v (visits c) → (m : Node) × Walked c m × (own_visit m ≡ Some v)) (children n)
        → (v : Visit) → Memᴰ v (visits n) → (m : Node) × Walked n m × (own_visit m ≡ Some v)
    step n below v i =
        ⊎_elim
        (λ e. (n, itself, e))
        (λ j. let (c, k, l) = flat_map_member visits (children n) j in let (m, w, e) = all_member _ (children n) below k v l in (m, from_child k w, e))
        (placed_cases (own_visit n) (flat_map visits (children n)) (rw (visits_placed n) at i))

-- the visits of a node that the walk reaches stand together
visits_within : {n m : Node} → Walked n m → PartOf (visits m) (visits n)
visits_within {m = m} itself = part_whole (visits m)
visits_within (child {n = n} w i) =
    part_inner (part_flat_map visits (children n) i)
    (part_inner (rw (visits_placed n) (placed_part (own_visit n) (flat_map visits (children n)))) (visits_within w))

walked_visit : {n m : Node} → Walked n m → (v : Visit) → own_visit m ≡ Some v → Memᴰ v (visits n)
walked_visit {m = m} w v e = part_member (visits_within w) (rw (visits_placed m, e) (placed_own v (flat_map visits (children m))))

-- which visits there are and in what order
pub walk_right : (root : Node) → WalkRight root (visits root)
unfolding flat_map
walk_right root = record { in_order = in_order root; of_walked = visit_walked root; of_each = of_each }
  where
    all_visited : (ns : List Node) → All (λ n. Visited n (visits n)) ns → AllVisited ns (flat_map visits ns)
    all_visited [] h = no_nodes
    all_visited (n ∷ ns) h = first h.0 (all_visited ns h.1)

    in_order : (n : Node) → Visited n (visits n)
    in_order = by_children (λ n. Visited n (visits n)) (λ n below. rw (visits_placed n) (visited (all_visited (children n) below)))

    of_each : (n : Node) → Walked root n → (v : Visit) → own_visit n ≡ Some v → StandsAmong (visits root) n v
    of_each n w v e =
        let p = visits_within w in
        let own : visits n ≡ placed (Some v) (flat_map visits (children n)) = rw e at (visits_placed n) in
        record {
          before = p.before;
          inside = flat_map visits (children n);
          behind = p.behind;
          among = rw own at p.among;
          within = all_visited (children n) (of_members _ (children n) (λ c m. in_order c));
        }

-- some visit meets refusal 9
any_refused : (vs : List Visit) → total judging vs ≡ true → (v : Visit) × Memᴰ v vs × (refused v ≡ true)
any_refused [] e = absurd (false≢true e)
any_refused (v ∷ vs) e = go (λ f. any_refused vs f) (refused v) refl e
  where
    go : (total judging vs ≡ true → (w : Visit) × Memᴰ w vs × (refused w ≡ true)) → (b : Bool) → refused v ≡ b → b || total judging vs ≡ true
        → (w : Visit) × Memᴰ w (v ∷ vs) × (refused w ≡ true)
    go below true is e = (v, Memᴰ_head refl, is)
    go below false is e = let (w, i, f) = below e in (w, Memᴰ_tail i, f)

refused_any : (vs : List Visit) {v : Visit} → Memᴰ v vs → refused v ≡ true → total judging vs ≡ true
refused_any [] m e = absurd (Memᴰ_not_nil m)
refused_any (w ∷ vs) {v} m e = ⊎_elim (λ i. rw (← i, e)) (λ i. rw (refused_any vs {v = v} i e, or-true (refused w))) (Memᴰ_cases_cons m)

uncooked_piece : (ps : Pieces) → (any_uncooked ps ≡ true) ↔ Memᴰ None ps
uncooked_piece [] = (λ e. absurd (false≢true e), λ m. absurd (Memᴰ_not_nil m))
uncooked_piece (None ∷ ps) = (λ e. Memᴰ_head refl, λ m. refl)
uncooked_piece (Some x ∷ ps) =
    (λ e. Memᴰ_tail ((uncooked_piece ps).0 e), λ m. ⊎_elim (λ e. absurd (none-some x e)) (λ i. (uncooked_piece ps).1 i) (Memᴰ_cases_cons m))

uncooked_shape : (s : Shape) → is_uncooked s ≡ true → (ps : Pieces) × (s ≡ pieces ps) × Memᴰ None ps
uncooked_shape (text x) e = absurd (false≢true e)
uncooked_shape (named x) e = absurd (false≢true e)
uncooked_shape (pieces ps) e = (ps, refl, (uncooked_piece ps).0 e)
uncooked_shape (operation plus l r) e = absurd (false≢true e)
uncooked_shape (properties ps) e = absurd (false≢true e)
uncooked_shape anything e = absurd (false≢true e)

require_shape : (s : Shape) → is_require s ≡ true → s ≡ named (ascii "require")
require_shape (text x) e = absurd (false≢true e)
require_shape (named x) e = ap (λ x. named x) (same_sound x (ascii "require") e)
require_shape (pieces ps) e = absurd (false≢true e)
require_shape (operation plus l r) e = absurd (false≢true e)
require_shape (properties ps) e = absurd (false≢true e)
require_shape anything e = absurd (false≢true e)

first_uncooked_lem : (xs : Arguments) → first_uncooked xs ≡ true → UncookedFirst xs
first_uncooked_lem no_arguments e = absurd (false≢true e)
first_uncooked_lem (argument dots at n xs) e = let (ps, i, m) = uncooked_shape (shape n) e in uncooked_first ps i m

uncooked_first_lem : {xs : Arguments} → UncookedFirst xs → first_uncooked xs ≡ true
uncooked_first_lem (uncooked_first ps e m) = rw e ((uncooked_piece ps).1 m)

abbrev of_visit : Option Visit → Bool
of_visit None = false
of_visit (Some v) = refused v

meets_nine : (m : Node) (v : Visit) → own_visit m ≡ Some v → refused v ≡ true → MeetsNine m
meets_nine m v o r = go m (rw o r)
  where
    go : (m : Node) → of_visit (own_visit m) ≡ true → MeetsNine m
    go (other sp ns) e = absurd (false≢true e)
    go (string sp x) e = absurd (false≢true e)
    go (name sp x) e = absurd (false≢true e)
    go (template sp ps ns) e = absurd (false≢true e)
    go (binary sp plus l r) e = absurd (false≢true e)
    go (object sp ps) e = absurd (false≢true e)
    go (import_call sp phase xs ns) e = of_import (first_uncooked_lem xs e)
    go (call sp c xs ns) e =
        let (i, j) = (and-eq-true_iff (is_require (shape c)) (first_uncooked xs)).0 e in of_require (require_shape (shape c) i) (first_uncooked_lem xs j)
    go (import_decl sp type_only phase side_effect x a) e = absurd (false≢true e)
    go (named_export sp type_only) e = absurd (false≢true e)
    go (export_from sp type_only x a) e = absurd (false≢true e)
    go (export_all sp type_only x a) e = absurd (false≢true e)
    go (import_type sp x ns a) e = absurd (false≢true e)
    go (import_equals sp) e = absurd (false≢true e)
    go (import_require sp type_only export x) e = absurd (false≢true e)
    go (module_decl sp x ns) e = absurd (false≢true e)

nine_meets : {m : Node} → MeetsNine m → (v : Visit) × (own_visit m ≡ Some v) × (refused v ≡ true)
nine_meets (of_import {sp = sp} {phase = phase} {xs = xs} u) = (called sp (importing phase) xs, refl, uncooked_first_lem u)
nine_meets (of_require {sp = sp} {e = e} {xs = xs} i u) = (called sp (expression e) xs, refl, rw (i, uncooked_first_lem u, same_refl (ascii "require")))

-- refusal 9 in 01's words
pub nine_exactly : (root : Node) → (uncooked root ≡ true) ↔ ((m : Node) × Walked root m × MeetsNine m)
nine_exactly root = (there, back)
  where
    there : uncooked root ≡ true → (m : Node) × Walked root m × MeetsNine m
    there e =
        let (v, i, r) = any_refused (visits root) (sym (uncooked_any root) ∙ e) in
        let (m, w, o) = visit_walked root v i in
        (m, w, meets_nine m v o r)

    back : (m : Node) × Walked root m × MeetsNine m → uncooked root ≡ true
    back (m, w, k) =
        let (v, o, r) = nine_meets k in
        uncooked_any root ∙ refused_any (visits root) (walked_visit w v o) r
