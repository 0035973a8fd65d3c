-- What the loops over nodes, arguments and properties keep: what is found so far, with what is to come, is what is found in all.
use Rattle.laws.proofs.Prelude.{◌≡◌, sym, ap, ◌∙◌, Bool, false, List, ℕ, ◌+◌, ◌-◌, ◌≤◌, ◌<◌, arith, sub-zero}
use Rattle.laws.specs.Decoded.{ok, no, on_ok, Decoder}
use Rattle.laws.proofs.Decoding.{on_ok_ok, on_ok_no, on_ok_same}
use Rattle.laws.proofs.Answers.{Yields, ends, behind}
use Rattle.sheet.specs.{declared.fields.Span.Span, Walked.entries, Walked.uncooked}
use Rattle.sheet.specs.Tree.{Node, Nodes, none, more, no_arguments, argument, Properties, no_properties}
use Rattle.sheet.specs.Nodes.{many, nodes, argument_item, arguments, property_item, properties}
use Rattle.sheet_heads.specs.code.Parts.{PropertyHead, spread_head, other_property_head, child_key_head, string_key_head, name_key_head, property_head}
use Rattle.sheet_heads.specs.code.Parts.{argument_head}
use Rattle.sheet_heads.proofs.ByHead.{argument_by_head, property_by_head, property_rest}
use Rattle.sheet_heads.proofs.Many.{found, found_step, found_stop, found_end}
use Rattle.sheet_nodes.specs.code.Tallies.{Tally, NodeTally, ArgumentTally, node_tally, tally_all, tally_in, gain, plus, with_argument, tally_of}
use Rattle.sheet_nodes.proofs.Adds.{nothing, is_nothing, plus_assoc, nothing_plus, plus_nothing, behind_passed, one_more, all_passed, none_more, no_passed}

-- what is found in all of so many items, of which so many are done: in these w
module _ {L W : Type 0} (after : W → L → W) (end : L) (item : Decoder (L → L)) where
  abbrev found_from : W → ℕ → ℕ → Decoder W
  found_from w count done = found after end item w (count - done)

  module _ (w w' : W) (count done : ℕ) (u : List ℕ) where
    from_step : {add : L → L} {v : List ℕ} → done < count → item u ≡ ok add v → ((l : L) → after w (add l) ≡ after w' l)
        → found_from w count done u ≡ found_from w' count (done + 1) v
    from_step h is adds =
        let down : count - (done + 1) ≡ count - done - 1 = omega arith in
        rw down (found_step after end item w w' (count - done) u (omega arith) is adds)

  module _ (w : W) (count done : ℕ) (u : List ℕ) where
    from_stop : {r : ℕ} → done < count → item u ≡ no r → found_from w count done u ≡ no r
    from_stop h is = found_stop after end item w (count - done) u (omega arith) is

    from_end : count ≤ done → found_from w count done u ≡ ok (after w end) u
    from_end h = found_end after end item w (count - done) u (omega arith)

-- a property adds what it would be by itself
abbrev Adds : (Properties → Properties) → Type 0
Adds add = (ps : Properties) → tally_in (add ps) ≡ plus (gain add) (tally_in ps)

added : (t u : Tally) → plus t u ≡ plus (plus t (nothing (tt {0}))) u
added t u = ap (λ x. plus x u) (sym (plus_nothing t))

-- a node among others
abbrev alone : Node → Tally
alone n = record { entries = entries n; uncooked = uncooked n; also = tt {0} }

-- what is found in all, where t was found before
abbrev pub after_nodes : Tally → Nodes → Tally
after_nodes t ns = plus t (tally_all ns)

abbrev pub after_properties : Tally → Properties → Tally
after_properties t ps = plus t (tally_in ps)

module _ (inner : Decoder Node) where
  abbrev pub node_item : Decoder (Nodes → Nodes)
  node_item s = on_ok (λ n l. more n l) (inner s)

  -- what is found in all of so many nodes, of which so many are done: in these t
  unfoldable pub from_nodes : Tally → ℕ → ℕ → Decoder Tally
  from_nodes = found_from after_nodes none node_item

  pub nodes_first : {t : Tally} (count : ℕ) (u : List ℕ) → (t.entries ≡ 0) × ((t.uncooked ≡ false) × (t.also ≡ tt {0}))
      → on_ok tally_all (nodes inner count u) ≡ from_nodes t count 0 u
  unfolding nodes from_nodes
  nodes_first count u h = rw (is_nothing h, sub-zero) (sym (on_ok_same (λ ns. nothing_plus (tally_all ns)) (many none node_item count u)))

  module _ (t : Tally) (count done : ℕ) (u : List ℕ) where
    pub nodes_step : {j : NodeTally} {v : List ℕ} → done < count → on_ok node_tally (inner u) ≡ ok j v
        → from_nodes t count done u ≡ from_nodes (plus t j) count (done + 1) v
    unfolding from_nodes
    nodes_step {j} h e =
        let (n, is, gives) = on_ok_ok node_tally (inner u) e in
        from_step after_nodes none node_item t (plus t j) count done u h (ap (on_ok (λ n l. more n l)) is)
        (λ ns. sym (plus_assoc t (node_tally n) (tally_all ns)) ∙ ap (λ j. plus (plus t j) (tally_all ns)) gives)

    pub nodes_stop : {r : ℕ} → done < count → on_ok node_tally (inner u) ≡ no r → from_nodes t count done u ≡ no r
    unfolding from_nodes
    nodes_stop h e = from_stop after_nodes none node_item t count done u h (ap (on_ok (λ n l. more n l)) (on_ok_no node_tally (inner u) e))

    pub nodes_end : count ≤ done → from_nodes t count done u ≡ ok t u
    unfolding from_nodes
    nodes_end h = from_end after_nodes none node_item t count done u h ∙ ap (λ t. ok t u) (plus_nothing t)

  module _ (source : List ℕ) where
    unfoldable pub from_arguments : ArgumentTally → ℕ → ℕ → Decoder ArgumentTally
    from_arguments = found_from behind_passed no_arguments (argument_item inner source)

    pub arguments_first : {p : ArgumentTally} (count : ℕ) (u : List ℕ)
        → (p.entries ≡ 0) × ((p.uncooked ≡ false) × ((p.also.any ≡ false) × (p.also.template ≡ false)))
        → on_ok tally_of (arguments inner source count u) ≡ from_arguments p count 0 u
    unfolding arguments from_arguments
    arguments_first {p} count u h =
        let none_passed : p ≡ no_passed = grind arith in
        rw (none_passed, sub-zero) (sym (on_ok_same all_passed (many no_arguments (argument_item inner source) count u)))

    module _ (p : ArgumentTally) (count done : ℕ) (u : List ℕ) where
      follows : {a : Bool × Span} {v : List ℕ} {n : Node} {w : List ℕ} → argument_head source u ≡ ok a v → inner v ≡ ok n w
          → argument_item inner source u ≡ ok (argument a.0 a.1 n) w
      follows e is = rw (argument_by_head inner source u, e, is)

      pub arguments_step : {a : Bool × Span} {v : List ℕ} {j : NodeTally} {w : List ℕ} → done < count → argument_head source u ≡ ok a v
          → on_ok node_tally (inner v) ≡ ok j w → from_arguments p count done u ≡ from_arguments (with_argument p j) count (done + 1) w
      unfolding from_arguments
      arguments_step {a} {v} {j} h e f =
          let (n, is, gives) = on_ok_ok node_tally (inner v) f in
          from_step behind_passed no_arguments (argument_item inner source) p (with_argument p j) count done u h (follows e is)
          (λ xs. one_more p a.0 a.1 n xs ∙ ap (λ j. behind_passed (with_argument p j) xs) gives)

      pub arguments_stop : {a : Bool × Span} {v : List ℕ} {r : ℕ} → done < count → argument_head source u ≡ ok a v → on_ok node_tally (inner v) ≡ no r
          → from_arguments p count done u ≡ no r
      unfolding from_arguments
      arguments_stop {a} {v} h e f =
          from_stop behind_passed no_arguments (argument_item inner source) p count done u h
          (rw (argument_by_head inner source u, e, on_ok_no node_tally (inner v) f))

      pub arguments_cut : {r : ℕ} → done < count → argument_head source u ≡ no r → from_arguments p count done u ≡ no r
      unfolding from_arguments
      arguments_cut h e = from_stop behind_passed no_arguments (argument_item inner source) p count done u h (rw (argument_by_head inner source u, e))

      pub arguments_end : count ≤ done → from_arguments p count done u ≡ ok p u
      unfolding from_arguments
      arguments_end h = from_end behind_passed no_arguments (argument_item inner source) p count done u h ∙ ap (λ p. ok p u) (none_more p)

  -- each property that is read adds what it would be by itself
  by_kind : (h : PropertyHead) → Yields Adds (property_rest inner h)
  by_kind spread_head = behind inner λ n. ends λ ps. added (alone n) (tally_in ps)
  by_kind other_property_head = behind inner λ n. ends λ ps. added (alone n) (tally_in ps)
  by_kind child_key_head = behind inner λ k. behind inner λ v. ends λ ps.
      ap (plus (alone k)) (added (alone v) (tally_in ps)) ∙
      sym (plus_assoc (alone k) (plus (alone v) (nothing (tt {0}))) (tally_in ps))
  by_kind (string_key_head x) = behind inner λ n. ends λ ps. added (alone n) (tally_in ps)
  by_kind (name_key_head x) = behind inner λ n. ends λ ps. added (alone n) (tally_in ps)

  property_adds : Yields Adds (property_item inner)
  property_adds = record { at = λ u. rw (property_by_head inner u) ((behind property_head by_kind).at u) }

  unfoldable pub from_properties : Tally → ℕ → ℕ → Decoder Tally
  from_properties = found_from after_properties no_properties (property_item inner)

  pub properties_first : {t : Tally} (count : ℕ) (u : List ℕ) → (t.entries ≡ 0) × ((t.uncooked ≡ false) × (t.also ≡ tt {0}))
      → on_ok tally_in (properties inner count u) ≡ from_properties t count 0 u
  unfolding properties from_properties
  properties_first count u h =
      rw (is_nothing h, sub-zero) (sym (on_ok_same (λ ps. nothing_plus (tally_in ps)) (many no_properties (property_item inner) count u)))

  module _ (t : Tally) (count done : ℕ) (u : List ℕ) where
    pub properties_step : {g : Tally} {v : List ℕ} → done < count → on_ok gain (property_item inner u) ≡ ok g v
        → from_properties t count done u ≡ from_properties (plus t g) count (done + 1) v
    unfolding from_properties
    properties_step {g} h e =
        let (add, is, gives) = on_ok_ok gain (property_item inner u) e in
        let adds : Adds add = rw is at (property_adds.at u) in
        from_step after_properties no_properties (property_item inner) t (plus t g) count done u h is
        (λ ps. ap (plus t) (adds ps) ∙ sym (plus_assoc t (gain add) (tally_in ps)) ∙ ap (λ g. plus (plus t g) (tally_in ps)) gives)

    pub properties_stop : {r : ℕ} → done < count → on_ok gain (property_item inner u) ≡ no r → from_properties t count done u ≡ no r
    unfolding from_properties
    properties_stop h e = from_stop after_properties no_properties (property_item inner) t count done u h (on_ok_no gain (property_item inner u) e)

    pub properties_end : count ≤ done → from_properties t count done u ≡ ok t u
    unfolding from_properties
    properties_end h = from_end after_properties no_properties (property_item inner) t count done u h ∙ ap (λ t. ok t u) (plus_nothing t)

pub ruleset nodes_looped = (nodes_first, nodes_step, nodes_stop, nodes_end)

pub ruleset arguments_looped = (arguments_first, arguments_step, arguments_stop, arguments_cut, arguments_end)

pub ruleset properties_looped = (properties_first, properties_step, properties_stop, properties_end)
