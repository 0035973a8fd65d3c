-- The walked nodes of a sheet within the limits: they are within them too, and there are no more visits than bytes.
use Rattle.std.specs.Prelude.{Some, None}
use Rattle.laws.proofs.Prelude.{Bool, true, false, cond, ap, List, [], ◌∷◌, ◌++◌, flat_map, Option, ℕ, suc, ◌≤◌, arith, length, length-append}
use Rattle.laws.specs.Codec.{All}
use Rattle.laws.proofs.Lists.{flat_map_append, all_member, all_append, part_flat_map}
use Rattle.sheet.specs.Tree.{Node, other, string, name, template, binary, object, import_call, call, import_decl, named_export, export_from, export_all}
use Rattle.sheet.specs.Tree.{import_type, import_equals, import_require, module_decl, Nodes, none, more, Arguments, no_arguments, argument, Properties}
use Rattle.sheet.specs.Tree.{no_properties, spread, other_property, child_key, string_key, name_key, Attributes, without, with_object}
use Rattle.sheet.{specs.Walk.Visit, proofs.Reaches.by_children}
use Rattle.sheet.specs.Reached.{nodes_in, arguments_in, properties_in, object_in, children, Walked, itself, child, own_visit, is_call, placed}
use Rattle.sheet.specs.WalkRight.{Visited, visited, AllVisited, no_nodes, first}
use Rattle.sheet_codec.specs.Encode.{encode_node, encode_nodes, encode_arguments, encode_properties, encode_attributes}
use Rattle.sheet_codec.specs.Limits.{under, NodeFits, NodesFit, ArgumentsFit, PropertiesFit, AttributesFit}

-- ---- within the limits

module _ (source : List ℕ) where
  abbrev Fits : ℕ → Node → Type 0
  Fits k n = NodeFits source n k

  nodes_fit : (k : ℕ) (ns : Nodes) → NodesFit source ns k → All (Fits k) (nodes_in ns)
  unfolding NodesFit
  nodes_fit k none f = tt
  nodes_fit k (more n ns) f = (f.0, nodes_fit k ns f.1)

  arguments_fit : (k : ℕ) (xs : Arguments) → ArgumentsFit source xs k → All (Fits k) (arguments_in xs)
  unfolding ArgumentsFit
  arguments_fit k no_arguments f = tt
  arguments_fit k (argument dots sp n xs) f = (f.0.1, arguments_fit k xs f.1)

  properties_fit : (k : ℕ) (ps : Properties) → PropertiesFit source ps k → All (Fits k) (properties_in ps)
  unfolding PropertiesFit
  properties_fit k no_properties f = tt
  properties_fit k (spread n ps) f = (f.0, properties_fit k ps f.1)
  properties_fit k (other_property n ps) f = (f.0, properties_fit k ps f.1)
  properties_fit k (child_key q v ps) f = (f.0.0, (f.0.1, properties_fit k ps f.1))
  properties_fit k (string_key q v ps) f = (f.0.1, properties_fit k ps f.1)
  properties_fit k (name_key q v ps) f = (f.0.1, properties_fit k ps f.1)

  object_fits : (k : ℕ) (a : Attributes) → AttributesFit source a k → All (Fits k) (object_in a)
  unfolding AttributesFit NodeFits
  object_fits k without f = tt
  object_fits k (with_object sp ps) f = (f, tt)

  children_fit : (k : ℕ) (n : Node) → NodeFits source n k → All (Fits (under k)) (children n)
  unfolding NodeFits
  children_fit k (other sp ns) f = nodes_fit (under k) ns f.1.1
  children_fit k (string sp x) f = tt
  children_fit k (name sp x) f = tt
  children_fit k (template sp ps ns) f = nodes_fit (under k) ns f.1.1.1
  children_fit k (binary sp plus l r) f = (f.1.0, (f.1.1, tt))
  children_fit k (object sp ps) f = properties_fit (under k) ps f.1.1
  children_fit k (import_call sp phase xs ns) f =
      all_append _ (arguments_in xs) (nodes_in ns) (arguments_fit (under k) xs f.1.0.1) (nodes_fit (under k) ns f.1.1.1)
  children_fit k (call sp e xs ns) f =
      (f.1.0, all_append _ (arguments_in xs) (nodes_in ns) (arguments_fit (under k) xs f.1.1.0.1) (nodes_fit (under k) ns f.1.1.1.1))
  children_fit k (import_decl sp type_only phase side_effect x a) f = tt
  children_fit k (named_export sp type_only) f = tt
  children_fit k (export_from sp type_only x a) f = tt
  children_fit k (export_all sp type_only x a) f = tt
  children_fit k (import_type sp x ns a) f = all_append _ (nodes_in ns) (object_in a) (nodes_fit (under k) ns f.1.1.1.0)
      (object_fits (under k) a f.1.1.1.1)
  children_fit k (import_equals sp) f = tt
  children_fit k (import_require sp type_only export x) f = tt
  children_fit k (module_decl sp x ns) f = nodes_fit (under k) ns f.1.1.1

  pub walked_fits : {root n : Node} → Walked root n → (k : ℕ) → NodeFits source root k → (j : ℕ) × NodeFits source n j
  walked_fits itself k f = (k, f)
  walked_fits (child {n = n} w i) k f = let (j, g) = walked_fits w k f in (under j, all_member _ (children n) (children_fit j n g) i)

-- ---- bytes

-- the bytes of the nodes in a part are among its own
nodes_bytes : (ns : Nodes) → length (flat_map encode_node (nodes_in ns)) ≤ length (encode_nodes ns)
unfolding flat_map encode_nodes
nodes_bytes none = omega arith
nodes_bytes (more n ns) = simp length-append (omega (arith, nodes_bytes ns))

arguments_bytes : (xs : Arguments) → length (flat_map encode_node (arguments_in xs)) ≤ length (encode_arguments xs)
unfolding flat_map encode_arguments
arguments_bytes no_arguments = omega arith
arguments_bytes (argument dots sp n xs) = simp length-append (omega (arith, arguments_bytes xs))

properties_bytes : (ps : Properties) → length (flat_map encode_node (properties_in ps)) ≤ length (encode_properties ps)
unfolding flat_map encode_properties
properties_bytes no_properties = omega arith
properties_bytes (spread n ps) = simp length-append (omega (arith, properties_bytes ps))
properties_bytes (other_property n ps) = simp length-append (omega (arith, properties_bytes ps))
properties_bytes (child_key k v ps) = simp length-append (omega (arith, properties_bytes ps))
properties_bytes (string_key k v ps) = simp length-append (omega (arith, properties_bytes ps))
properties_bytes (name_key k v ps) = simp length-append (omega (arith, properties_bytes ps))

object_bytes : (a : Attributes) → length (flat_map encode_node (object_in a)) ≤ length (encode_attributes a)
unfolding flat_map encode_attributes encode_node
object_bytes without = omega arith
object_bytes (with_object sp ps) = simp length-append (omega arith)

-- a node has a byte more than its children
children_bytes : (n : Node) → suc (length (flat_map encode_node (children n))) ≤ length (encode_node n)
unfolding flat_map encode_node
children_bytes (other sp ns) = simp length-append (omega (arith, nodes_bytes ns))
children_bytes (string sp x) = omega arith
children_bytes (name sp x) = omega arith
children_bytes (template sp ps ns) = simp length-append (omega (arith, nodes_bytes ns))
children_bytes (binary sp plus l r) = simp length-append (omega arith)
children_bytes (object sp ps) = simp length-append (omega (arith, properties_bytes ps))
children_bytes (import_call sp phase xs ns) = simp (flat_map_append, length-append) (omega (arith, arguments_bytes xs, nodes_bytes ns))
children_bytes (call sp e xs ns) = simp (flat_map_append, length-append) (omega (arith, arguments_bytes xs, nodes_bytes ns))
children_bytes (import_decl sp type_only phase side_effect x a) = omega arith
children_bytes (named_export sp type_only) = omega arith
children_bytes (export_from sp type_only x a) = omega arith
children_bytes (export_all sp type_only x a) = omega arith
children_bytes (import_type sp x ns a) = simp (flat_map_append, length-append) (omega (arith, nodes_bytes ns, object_bytes a))
children_bytes (import_equals sp) = omega arith
children_bytes (import_require sp type_only export x) = omega arith
children_bytes (module_decl sp x ns) = simp length-append (omega (arith, nodes_bytes ns))

pub walked_bytes : {root n : Node} → Walked root n → length (encode_node n) ≤ length (encode_node root)
walked_bytes itself = omega arith
walked_bytes (child {n = n} {c = c} w i) =
    let p = part_flat_map encode_node (children n) i in
    omega (arith, walked_bytes w, children_bytes n, simp length-append at (ap length p.among))

-- no more visits than bytes
placed_few : (o : Option Visit) (l : List Visit) → length (placed o l) ≤ suc (length l)
placed_few None l = omega arith
placed_few (Some v) l = go (is_call v)
  where
    go : (b : Bool) → length (cond b (l ++ v ∷ []) (v ∷ l)) ≤ suc (length l)
    go true = simp length-append (omega arith)
    go false = omega arith

abbrev Few : Node → Type 0
Few n = (vs : List Visit) → Visited n vs → length vs ≤ length (encode_node n)

inside : {n : Node} {vs : List Visit} → Visited n vs → (l : List Visit) × AllVisited (children n) l × (length vs ≤ suc (length l))
inside {n} (visited {inside = l} a) = (l, a, placed_few (own_visit n) l)

all_few : {ns : List Node} {vs : List Visit} → AllVisited ns vs → All Few ns → length vs ≤ length (flat_map encode_node ns)
unfolding flat_map
all_few no_nodes h = omega arith
all_few (first {l = l} v a) h = simp length-append (omega (arith, h.0 l v, all_few a h.1))

pub visits_few : (n : Node) → Few n
visits_few = by_children Few (λ n below vs v. let (l, a, k) = inside v in omega (arith, all_few a below, children_bytes n))
