-- The nodes of a sheet, each field judged where it stands.
use Rattle.std.specs.Prelude.{Bool, cond, List, [], ◌∷◌, ℕ, zero, suc, ◌+◌, eqb, ltb, get_or}
use Rattle.laws.specs.Decoded.{Decoder, on_ok, ◌>>=◌, ◌>>◌, return, refuse, require}
use Rattle.text.specs.declared.utf8.Encoding.TheVariants.{Utf8, Wtf8}
use Rattle.wire.specs.Refusals as refusals
use Rattle.wire.specs.Fields.{byte, below, value_of, numbered, flag}
use Rattle.wire.specs.Number.{number}
use Rattle.wire.specs.Text.{count, text}
use Rattle.wire.specs.Optional.{optional}
use Rattle.sheet.specs.Limits.{text_limit, property_limit}
use Rattle.sheet.specs.declared.fields.Span.{Span}
use Rattle.sheet.specs.Names.{import_phases}
use Rattle.sheet.specs.Tree.{Quoted, Pieces, Node, other, string, name, template, binary, object, import_call, call, import_decl, named_export}
use Rattle.sheet.specs.Tree.{export_from, export_all, import_type, import_equals, import_require, module_decl, Nodes, none, more, Arguments}
use Rattle.sheet.specs.Tree.{no_arguments, argument, Properties, no_properties, spread, other_property, child_key, string_key, name_key, Attributes}
use Rattle.sheet.specs.Tree.{without, with_object}
use Rattle.sheet.specs.Fields.{span}
use Rattle.sheet.specs.Comments.{slice}
use Rattle.sheet.specs.Quotation.{looks_quoted}

-- so many items, each where the one before ends; an item is what it adds to the list of those behind it
unfoldable pub many : {L : Type 0} → L → Decoder (L → L) → ℕ → Decoder L
many end item zero = return end
many end item (suc k) = item >>= λ add s. on_ok add (many end item k s)

-- what is judged at a tag, once it is read: its place allows it; then, with no level left, refusal 4
abbrev pub judge_tag : Bool → ℕ → ℕ → Decoder ℕ
judge_tag allowed levels t = do
  require allowed refusals.byte
  require (ltb 0 levels) refusals.limit
  return t

unfoldable pub tag : (ℕ → Bool) → ℕ → Decoder ℕ
tag allowed levels = byte >>= λ t. judge_tag (allowed t) levels t

-- the text of a String, by what the source has at its span; before it, refusal 13 where that is no quotation
unfoldable pub text_behind : List ℕ → Decoder (List ℕ)
text_behind quotation = do
  require (looks_quoted quotation) refusals.quotation
  text Wtf8 text_limit

abbrev pub string_text : List ℕ → Span → Decoder (List ℕ)
string_text source sp = text_behind (slice source sp)

-- a String, with so many levels left, its own among them
unfoldable pub quoted : List ℕ → ℕ → Decoder Quoted
quoted source levels = do
  tag (eqb 1) levels
  sp ← span source
  x ← string_text source sp
  return (record { span = sp; text = x })

-- a piece of a template: a flag, and its text if it is cooked
unfoldable pub piece : Decoder (Pieces → Pieces)
piece = do
  x ← optional (text Wtf8 text_limit)
  return (x ∷◌)

-- the parts of a node that hold nodes, from a decoder of a node one level down
module _ (node : Decoder Node) where
  unfoldable pub nodes : ℕ → Decoder Nodes
  nodes = many none (λ s. on_ok (λ n l. more n l) (node s))

  -- an argument: a flag, spread or not, its span, and its node
  unfoldable pub argument_item : List ℕ → Decoder (Arguments → Arguments)
  argument_item source = do
    dots ← flag
    sp ← span source
    n ← node
    return (argument dots sp n)

  unfoldable pub arguments : List ℕ → ℕ → Decoder Arguments
  arguments source = many no_arguments (argument_item source)

  -- a property with a key, by the key's byte: 0 a child, 1 a string text, 2 a name text; and the value
  unfoldable pub keyed_item : ℕ → Decoder (Properties → Properties)
  keyed_item kind =
      get_or
      ((node >>= λ k. node >>= λ v. return (child_key k v))
      ∷ (text Wtf8 text_limit >>= λ k. node >>= λ v. return (string_key k v))
      ∷ (text Utf8 text_limit >>= λ k. node >>= λ v. return (name_key k v))
      ∷ [])
      kind
      (refuse refusals.byte)

  -- a property, by its byte: 0 spread, 1 other, 2 with a key
  unfoldable pub property_item : Decoder (Properties → Properties)
  property_item = do
    kind ← byte
    get_or
        ((node >>= λ n. return (spread n))
        ∷ (node >>= λ n. return (other_property n))
        ∷ (byte >>= keyed_item)
        ∷ [])
        kind
        (refuse refusals.byte)

  unfoldable pub properties : ℕ → Decoder Properties
  properties = many no_properties property_item

  -- what follows the callee of a call: arguments and further children
  unfoldable pub call_rest : List ℕ → Decoder (Arguments × Nodes)
  call_rest source = do
    n ← number
    xs ← arguments source n
    m ← number
    ns ← nodes m
    return (xs, ns)

-- a flag, and an Object if it is 1
unfoldable pub attributes : Decoder Attributes → Decoder Attributes
attributes inner = do
  has_object ← flag
  cond has_object inner (return without)

-- what follows the count of an import type's children: these and the attributes
unfoldable pub type_rest : Decoder Node → Decoder Attributes → ℕ → Decoder (Nodes × Attributes)
type_rest node object' n = do
  ns ← nodes node n
  a ← attributes object'
  return (ns, a)

-- what follows the tag and the span of a node, by its tag: from decoders of a node and of an Object one level down, where so many levels are left
module _ (source : List ℕ) (levels : ℕ) (node : Decoder Node) (object' : Decoder Attributes) (sp : Span) where
  unfoldable pub other_fields : Decoder Node
  other_fields = do
    n ← number
    ns ← nodes node n
    return (other sp ns)

  unfoldable pub string_fields : Decoder Node
  string_fields = do
    x ← string_text source sp
    return (string sp x)

  unfoldable pub name_fields : Decoder Node
  name_fields = do
    x ← text Utf8 text_limit
    return (name sp x)

  -- holes, pieces, the holes' nodes
  unfoldable pub template_fields : Decoder Node
  template_fields = do
    n ← number
    ps ← many [] piece (n + 1)
    ns ← nodes node n
    return (template sp ps ns)

  unfoldable pub binary_fields : Decoder Node
  binary_fields = do
    plus ← flag
    l ← node
    r ← node
    return (binary sp plus l r)

  unfoldable pub object_fields : Decoder Node
  object_fields = do
    n ← count property_limit
    ps ← properties node n
    return (object sp ps)

  unfoldable pub call_fields : Decoder Node
  call_fields = do
    callee ← below 4
    cond (ltb callee 3)
        (call_rest node source >>= λ p. return (import_call sp (value_of import_phases callee) p.0 p.1))
        (node >>= λ e. call_rest node source >>= λ p. return (call sp e p.0 p.1))

  unfoldable pub import_fields : Decoder Node
  import_fields = do
    type_only ← flag
    phase ← numbered import_phases
    side_effect ← flag
    x ← quoted source levels
    a ← attributes object'
    return (import_decl sp type_only phase side_effect x a)

  unfoldable pub named_export_fields : Decoder Node
  named_export_fields = do
    type_only ← flag
    named ← flag
    cond named (do
      x ← quoted source levels
      a ← attributes object'
      return (export_from sp type_only x a))
        (return (named_export sp type_only))

  unfoldable pub export_all_fields : Decoder Node
  export_all_fields = do
    type_only ← flag
    x ← quoted source levels
    a ← attributes object'
    return (export_all sp type_only x a)

  unfoldable pub import_type_fields : Decoder Node
  import_type_fields = do
    x ← quoted source levels
    n ← number
    p ← type_rest node object' n
    return (import_type sp x p.0 p.1)

  unfoldable pub import_equals_fields : Decoder Node
  import_equals_fields = do
    external ← flag
    cond external (do
      type_only ← flag
      export ← flag
      x ← quoted source levels
      return (import_require sp type_only export x))
        (return (import_equals sp))

  unfoldable pub module_fields : Decoder Node
  module_fields = do
    x ← optional (quoted source levels)
    n ← number
    ns ← nodes node n
    return (module_decl sp x ns)

  unfoldable pub fields : ℕ → Decoder Node
  fields t =
      get_or
      (other_fields ∷ string_fields ∷ name_fields ∷ template_fields ∷ binary_fields ∷ object_fields ∷ call_fields ∷ import_fields
      ∷ named_export_fields ∷ export_all_fields ∷ import_type_fields ∷ import_equals_fields ∷ module_fields ∷ [])
      t
      (refuse refusals.byte)

unfoldable mutual
  -- a node with so many levels left, its own among them
  pub node : List ℕ → ℕ → Decoder Node
  node source zero = tag (λ t. ltb t 13) 0 >> refuse refusals.limit
  node source (suc d) = do
    t ← tag (λ t. ltb t 13) (suc d)
    sp ← span source
    fields source d (node source d) (attributes_object source d) sp t

  -- an Object that holds attributes
  pub attributes_object : List ℕ → ℕ → Decoder Attributes
  attributes_object source zero = tag (eqb 5) 0 >> refuse refusals.limit
  attributes_object source (suc d) = do
    tag (eqb 5) (suc d)
    sp ← span source
    n ← count property_limit
    ps ← properties (node source d) n
    return (with_object sp ps)
