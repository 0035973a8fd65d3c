-- What is written of so many nodes, arguments or properties, by the first of them.
use Rattle.laws.proofs.Prelude.{◌≡◌, refl, ap, ◌∙◌, List, [], ◌++◌, append_assoc, ℕ, ◌+◌, ◌-◌, ◌≤◌, ◌<◌, arith}
use Rattle.laws.specs.Decoded.{Decoded, ok, no, on_ok, Decoder, ◌>>=◌}
use Rattle.laws.proofs.Decoding.{on_ok_ok, on_ok_no}
use Rattle.laws.proofs.Answers.{Yields, ends, behind, changed, anything}
use Rattle.sheet.specs.code.Commented.{Commented}
use Rattle.sheet.specs.Tree.{Node, none, more, no_arguments, no_properties}
use Rattle.sheet.specs.Nodes.{nodes, argument_item, arguments, property_item, properties}
use Rattle.sheet_heads.specs.code.Parts.{PropertyHead, spread_head, other_property_head, child_key_head, string_key_head, name_key_head, property_head}
use Rattle.sheet_heads.specs.code.Parts.{argument_head}
use Rattle.sheet_heads.proofs.ByHead.{argument_by_head, property_by_head, argument_rest, property_rest}
use Rattle.sheet_heads.proofs.Many.{found, found_step, found_stop, found_end}
use Rattle.sheet_nodes.proofs.Loops.{node_item}
use Rattle.dep_entries.specs.{declared.Items.Items, Entries.Noted}
use Rattle.dep_entries.specs.code.Written.{types_of, Collected, items_as, with_entries}
use Rattle.dep_entries.proofs.Wrote.{entries_append, entries_nil}
use Rattle.dep.specs.Collect.{noting, collect_noted}
use Rattle.dep.specs.code.Walk.{note_all, note_of, note_in, after_node, after_nodes, after_argument, after_arguments, after_property, after_properties}
use Rattle.dep.proofs.Added.{entries_last}

-- items whose entries are gathered, from an empty list of them
module _ {L : Type 0} (gather : L → List Noted) (end : L) where
  abbrev pub after : Collected → L → Collected
  after w l = with_entries w (gather l)

  -- an item adds the entries that it would have by itself
  abbrev pub Adds : (L → L) → Type 0
  Adds add = (l : L) → gather (add l) ≡ gather (add end) ++ gather l

  abbrev pub after_one : Collected → (L → L) → Collected
  after_one w add = after w (add end)

  module _ (item : Decoder (L → L)) where
    abbrev pub walk_from : Collected → ℕ → List ℕ → Decoded Collected
    walk_from = found after end item

    module _ (k : ℕ) (u : List ℕ) where
      pub walk_step : Yields Adds item → (w : Collected) {w' : Collected} {v : List ℕ} → 0 < k → on_ok (after_one w) (item u) ≡ ok w' v →
          walk_from w k u ≡ walk_from w' (k - 1) v
      walk_step each_adds w h e =
          let (add, is, gives) = on_ok_ok (after_one w) (item u) e in
          let adds : Adds add = rw is at (each_adds.at u) in
          rw (← gives)
          (found_step after end item w (after_one w add) k u h is (λ l. ap (with_entries w) (adds l) ∙ entries_append w (gather (add end)) (gather l)))

      pub walk_stop : (w : Collected) {r : ℕ} → 0 < k → on_ok (after_one w) (item u) ≡ no r → walk_from w k u ≡ no r
      walk_stop w h e = found_stop after end item w k u h (on_ok_no (after_one w) (item u) e)

      pub walk_end : gather end ≡ [] → (i : Items) → k ≤ 0 → walk_from (items_as i) k u ≡ ok (items_as i) u
      walk_end e i h = found_end after end item (items_as i) k u h ∙ ap (λ w. ok w u) (ap (with_entries (items_as i)) e ∙ entries_nil i)

-- and of so many items, of which so many are done
module _ {L : Type 0} (gather : L → List Noted) (end : L) (item : Decoder (L → L)) (count done : ℕ) (u : List ℕ) where
  from_step : Yields (Adds gather end) item → (w : Collected) → done < count → {w' : Collected} {v : List ℕ} → on_ok (after_one gather end w) (item u) ≡ ok w' v
      → walk_from gather end item w (count - done) u ≡ walk_from gather end item w' (count - (done + 1)) v
  from_step each_adds w h e =
      let down : count - (done + 1) ≡ count - done - 1 = omega arith in
      rw down (walk_step gather end item (count - done) u each_adds w (omega arith) e)

  from_stop : (w : Collected) → done < count → {r : ℕ} → on_ok (after_one gather end w) (item u) ≡ no r → walk_from gather end item w (count - done) u ≡ no r
  from_stop w h e = walk_stop gather end item (count - done) u w (omega arith) e

  from_end : gather end ≡ [] → (i : Items) → count ≤ done → walk_from gather end item (items_as i) (count - done) u ≡ ok (items_as i) u
  from_end e i h = walk_end gather end item (count - done) u e i (omega arith)

module _ (c : Commented) (inner : Decoder Node) where
  abbrev entries : Node → List Noted
  entries = collect_noted c.source (types_of c)

  node_adds : Yields (Adds (note_all c) none) (node_item inner)
  unfolding noting
  node_adds = changed (λ n l. more n l) (anything inner) (λ n h ns. rw (entries_last (entries n)))

  argument_adds : Yields (Adds (note_of c) no_arguments) (argument_item inner c.source)
  unfolding noting
  argument_adds = record { at = λ u. rw (argument_by_head inner c.source u) (adds.at u) }
    where
      adds : Yields (Adds (note_of c) no_arguments) (argument_head c.source >>= argument_rest inner)
      adds = behind (argument_head c.source) λ a. behind inner λ n. ends λ xs. rw (entries_last (entries n))

  by_kind : (h : PropertyHead) → Yields (Adds (note_in c) no_properties) (property_rest inner h)
  unfolding noting
  by_kind spread_head = behind inner λ n. ends λ ps. rw (entries_last (entries n))
  by_kind other_property_head = behind inner λ n. ends λ ps. rw (entries_last (entries n))
  by_kind child_key_head = behind inner λ n. behind inner λ v. ends λ ps.
      rw (entries_last (entries v), append_assoc (entries n) (entries v) (note_in c ps))
  by_kind (string_key_head x) = behind inner λ n. ends λ ps. rw (entries_last (entries n))
  by_kind (name_key_head x) = behind inner λ n. ends λ ps. rw (entries_last (entries n))

  property_adds : Yields (Adds (note_in c) no_properties) (property_item inner)
  property_adds = record { at = λ u. rw (property_by_head inner u) ((behind property_head by_kind).at u) }

  -- a node among others
  one_node : (w : Collected) (x : Decoded Node) → on_ok (after_one (note_all c) none w) (on_ok (λ n l. more n l) x) ≡ on_ok (after_node c w) x
  unfolding noting
  one_node w (ok n t) = rw (entries_last (entries n))
  one_node w (no r) = refl

  module _ (w : Collected) (count done : ℕ) (u : List ℕ) where
    pub nodes_step : done < count → {w' : Collected} {v : List ℕ} → on_ok (after_node c w) (inner u) ≡ ok w' v
        → on_ok (after_nodes c w) (nodes inner (count - done) u) ≡ on_ok (after_nodes c w') (nodes inner (count - (done + 1)) v)
    unfolding nodes
    nodes_step h e = from_step (note_all c) none (node_item inner) count done u node_adds w h (one_node w (inner u) ∙ e)

    pub nodes_stop : done < count → {r : ℕ} → on_ok (after_node c w) (inner u) ≡ no r → on_ok (after_nodes c w) (nodes inner (count - done) u) ≡ no r
    unfolding nodes
    nodes_stop h e = from_stop (note_all c) none (node_item inner) count done u w h (one_node w (inner u) ∙ e)

    pub arguments_step : done < count → {w' : Collected} {v : List ℕ} → on_ok (after_argument c w) (argument_item inner c.source u) ≡ ok w' v
        → on_ok (after_arguments c w) (arguments inner c.source (count - done) u)
        ≡ on_ok (after_arguments c w') (arguments inner c.source (count - (done + 1)) v)
    unfolding arguments
    arguments_step = from_step (note_of c) no_arguments (argument_item inner c.source) count done u argument_adds w

    pub arguments_stop : done < count → {r : ℕ} → on_ok (after_argument c w) (argument_item inner c.source u) ≡ no r
        → on_ok (after_arguments c w) (arguments inner c.source (count - done) u) ≡ no r
    unfolding arguments
    arguments_stop = from_stop (note_of c) no_arguments (argument_item inner c.source) count done u w

    pub properties_step : done < count → {w' : Collected} {v : List ℕ} → on_ok (after_property c w) (property_item inner u) ≡ ok w' v
        → on_ok (after_properties c w) (properties inner (count - done) u) ≡ on_ok (after_properties c w') (properties inner (count - (done + 1)) v)
    unfolding properties
    properties_step = from_step (note_in c) no_properties (property_item inner) count done u property_adds w

    pub properties_stop : done < count → {r : ℕ} → on_ok (after_property c w) (property_item inner u) ≡ no r
        → on_ok (after_properties c w) (properties inner (count - done) u) ≡ no r
    unfolding properties
    properties_stop = from_stop (note_in c) no_properties (property_item inner) count done u w

  module _ (i : Items) (count done : ℕ) (u : List ℕ) where
    pub nodes_end : count ≤ done → on_ok (after_nodes c (items_as i)) (nodes inner (count - done) u) ≡ ok (items_as i) u
    unfolding noting nodes
    nodes_end = from_end (note_all c) none (node_item inner) count done u refl i

    pub arguments_end : count ≤ done → on_ok (after_arguments c (items_as i)) (arguments inner c.source (count - done) u) ≡ ok (items_as i) u
    unfolding noting arguments
    arguments_end = from_end (note_of c) no_arguments (argument_item inner c.source) count done u refl i

    pub properties_end : count ≤ done → on_ok (after_properties c (items_as i)) (properties inner (count - done) u) ≡ ok (items_as i) u
    unfolding noting properties
    properties_end = from_end (note_in c) no_properties (property_item inner) count done u refl i

pub ruleset nodes_turn = (nodes_step, nodes_stop, nodes_end)

pub ruleset arguments_turn = (arguments_step, arguments_stop, arguments_end)

pub ruleset properties_turn = (properties_step, properties_stop, properties_end)
