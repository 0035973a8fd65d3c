-- What is found in a node, from what is found in the nodes that it holds.
use Rattle.laws.proofs.Prelude.{◌≡◌, refl, sym, ap, ◌∙◌, Bool, true, false, List, ℕ, ◌-◌, add-zero, zero-add}
use mathlib.Core.Bool.{or-false}
use Rattle.laws.specs.Decoded.{Decoded, ok, no, and_then, on_ok, Decoder, ◌>>=◌, return}
use Rattle.laws.proofs.Decoding.{refused, map_map, built}
use Rattle.wire.specs.{Fields.flag, Number.number}
use Rattle.sheet.specs.{declared.fields.Span.Span, Walked.uncooked}
use Rattle.sheet.specs.Tree.{Node, other, binary, Nodes, none, more, spread, other_property, child_key, string_key, name_key, Arguments, Properties, Attributes}
use Rattle.sheet.specs.Tree.{with_object}
use Rattle.sheet.specs.Nodes.{many, nodes, attributes, attributes_object}
use Rattle.sheet_heads.specs.{declared.parts.Property.Property, code.Rest.behind, code.Views.property_of, code.Views.nodes_of}
use Rattle.sheet_heads.specs.declared.parts.Property.TheVariants as property
use Rattle.sheet_heads.specs.code.Parts.{attributes_head}
use Rattle.sheet_heads.proofs.ByHead.{property_rest, attributes_rest, attributes_by_head}
use Rattle.sheet_nodes.specs.code.Tallies.{Tally, ArgumentTally, node_tally, tally_all, tally_in, tally_with, gain, plus, tally_of, tally_call, tally_typed}
use Rattle.sheet_nodes.specs.code.Answers.{with_own}

-- what is found in a value, and what is found in what is built from it
found_built : {A B C D : Type 0} (f : B → D) (tally : A → B) (g : C → D) (build : A → C) → ((a : A) → f (tally a) ≡ g (build a)) → (x : Decoded A)
    → on_ok f (on_ok tally x) ≡ on_ok g (and_then x (λ a. return (build a)))
found_built f tally g build e x = map_map f tally x ∙ built (λ a. f (tally a)) g build e x

-- one node and two, read one after the other, and what is found in them
module _ (inner : Decoder Node) {A B C : Type 0} (f : A → C) (g : B → C) where
  pub alike : (a : Node → A) (b : Node → B) → ((n : Node) → f (a n) ≡ g (b n)) → (x : Decoded Node)
      → on_ok f (and_then x (λ n. return (a n))) ≡ on_ok g (and_then x (λ n. return (b n)))
  alike a b e (ok n t) = ap (λ c. ok c t) (e n)
  alike a b e (no r) = refl

  pub alike_two : (a : Node → Node → A) (b : Node → Node → B) → ((m n : Node) → f (a m n) ≡ g (b m n)) → (x : Decoded Node)
      → on_ok f (and_then x (λ m. inner >>= λ n. return (a m n))) ≡ on_ok g (and_then x (λ m. inner >>= λ n. return (b m n)))
  alike_two a b e (ok m t) = alike (a m) (b m) (e m) (inner t)
  alike_two a b e (no r) = refl

module _ (inner : Decoder Node) where
  pub nodes_one : (u : List ℕ) → nodes inner 1 u ≡ (inner >>= λ n. return (more n none)) u
  unfolding nodes many
  nodes_one u = go (inner u)
    where
      go : (x : Decoded Node) → and_then (on_ok (λ n l. more n l) x) (λ add t. on_ok add (ok none t)) ≡ and_then x (λ n. return (more n none))
      go (ok n t) = refl
      go (no r) = refl

  pub nodes_two : (u : List ℕ) → nodes inner 2 u ≡ (inner >>= λ m. inner >>= λ n. return (more m (more n none))) u
  unfolding nodes many
  nodes_two u = go (inner u)
    where
      next : (m : Node) (x : Decoded Node) →
          on_ok (more m) (and_then (on_ok (λ n l. more n l) x) (λ add t. on_ok add (ok none t))) ≡ and_then x (λ n. return (more m (more n none)))
      next m (ok n t) = refl
      next m (no r) = refl

      go : (x : Decoded Node)
          → and_then (on_ok (λ n l. more n l) x) (λ add t. on_ok add (and_then (on_ok (λ n l. more n l) (inner t)) (λ add t. on_ok add (ok none t))))
          ≡ and_then x (λ m. inner >>= λ n. return (more m (more n none)))
      go (ok m t) = next m (inner t)
      go (no r) = refl

  -- a property: one node, or two with a child for its key
  pub property_holds : (p : Property) (u : List ℕ) → on_ok tally_all (nodes inner (nodes_of p) u) ≡ on_ok gain (property_rest inner (property_of p) u)
  property_holds property.Spread u = rw (nodes_one u) (alike inner tally_all gain (λ n. more n none) spread (λ n. refl) (inner u))
  property_holds property.Other u = rw (nodes_one u) (alike inner tally_all gain (λ n. more n none) other_property (λ n. refl) (inner u))
  property_holds property.ChildKey u = rw (nodes_two u) (alike_two inner tally_all gain (λ k v. more k (more v none)) child_key (λ k v. refl) (inner u))
  property_holds (property.StringKey x) u = rw (nodes_one u)
      (alike inner tally_all gain (λ n. more n none) (string_key x.now) (λ n. refl) (inner u))
  property_holds (property.NameKey x) u = rw (nodes_one u)
      (alike inner tally_all gain (λ n. more n none) (name_key x.now) (λ n. refl) (inner u))

abbrev pub pair : {A B : Type 0} → A → B → Decoder (A × B)
pair a b = return (a, b)

-- an Other holds nodes
pub other_holds : (sp : Span) (x : Decoded Nodes)
    → on_ok (with_own false false) (on_ok tally_all x) ≡ on_ok node_tally (and_then x (λ ns. return (other sp ns)))
other_holds sp x = found_built (with_own false false) tally_all node_tally (other sp) (λ ns. rw zero-add) x

-- a binary operation holds two nodes
pub binary_holds : (inner : Decoder Node) (sp : Span) (add : Bool) (u : List ℕ)
    → on_ok (with_own false false) (on_ok tally_all (nodes inner 2 u)) ≡ on_ok node_tally ((inner >>= λ l. inner >>= λ r. return (binary sp add l r)) u)
binary_holds inner sp add u =
    map_map (with_own false false) tally_all (nodes inner 2 u)
    ∙ ap (on_ok (λ ns. with_own false false (tally_all ns))) (nodes_two inner u)
    ∙ alike_two inner (λ ns. with_own false false (tally_all ns)) node_tally (λ m n. more m (more n none)) (binary sp add)
    (λ m n. rw (zero-add, add-zero, or-false (uncooked n))) (inner u)

-- nodes behind arguments
pub arguments_nodes : (inner : Decoder Node) (x : Decoded Arguments) {p : ArgumentTally} {w : List ℕ} → on_ok tally_of x ≡ ok p w
    → {m : ℕ} {v : List ℕ} → number w ≡ ok m v
    → on_ok tally_call (and_then x (λ xs. number >>= λ m. nodes inner m >>= pair xs)) ≡ on_ok (plus p) (on_ok tally_all (nodes inner m v))
arguments_nodes inner (ok xs t) {p} {w} e {m} {v} g =
    let h : p ≡ tally_of xs = cc in
    let i : number t ≡ ok m v = cc in
    rw (h, i) (sym (found_built (plus (tally_of xs)) tally_all tally_call (λ ns. (xs, ns)) (λ ns. refl) (nodes inner m v)))
arguments_nodes inner (no r) e g = absurd (refused e)

-- attributes behind nodes
pub nodes_attributes : (object' : Decoder Attributes) (x : Decoded Nodes) {t : Tally} {w : List ℕ} → on_ok tally_all x ≡ ok t w
    → {b : Bool} {v : List ℕ} → flag w ≡ ok b v
    → on_ok tally_typed (and_then x (λ ns. attributes object' >>= pair ns)) ≡ on_ok (plus t) (on_ok tally_with (behind b object' v))
unfolding attributes
nodes_attributes object' (ok ns u) {t} {w} e {b} {v} g =
    let h : t ≡ tally_all ns = cc in
    let i : flag u ≡ ok b v = cc in
    rw (h, i) (sym (found_built (plus (tally_all ns)) tally_with tally_typed (λ a. (ns, a)) (λ a. refl) (behind b object' v)))
nodes_attributes object' (no r) e g = absurd (refused e)

-- an Object that holds attributes
pub object_holds : (sp : Span) (x : Decoded Properties) → on_ok tally_in x ≡ on_ok tally_with (and_then x (λ ps. return (with_object sp ps)))
object_holds sp (ok ps t) = refl
object_holds sp (no r) = refl

-- one behind a flag that is 1, from its head
pub object_behind : {b : Bool} (source : List ℕ) (levels : ℕ) (u : List ℕ) → b ≡ true
    → behind b (attributes_object source levels) u ≡ and_then (attributes_head source levels u) (attributes_rest source (levels - 1))
object_behind source levels u h = rw (h, attributes_by_head source levels u)
