-- What the answers of the code stand for, and the bounds that they keep.
use Rattle.std.specs.Prelude.{◌≡◌, Bool, true, false, cond, List, [], ◌∷◌, ℕ, ◌≤◌, ◌<◌, set}
use Rattle.std.specs.Prelude.{Option, None, Some, Result, Ok, Err}
use Rattle.std.specs.Bool.{then_some}
use Rattle.std.specs.Borrow.{Bor}
use Rattle.std.specs.List as list
use Rattle.laws.specs.Codec.{All, IfThere}
use Rattle.laws.specs.Decoded.{Decoded, ok, no, Decoder}
use Rattle.laws.specs.code.Among.{EndOf, PartOf}
use Rattle.text.specs.Lossy.{exact}
use Rattle.wire.specs.Refusals.{number_of}
use Rattle.wire.specs.code.Views.{ReadResult, PastWith}
use Rattle.sheet.specs.Limits.{property_limit}
use Rattle.sheet.specs.Tree.{Node, Properties, Attributes, without}
use Rattle.sheet.specs.Nodes.{node, property_item}
use Rattle.sheet.specs.Nodes as nodes
use Rattle.sheet.specs.Shape.{Shape, text, named, pieces, operation, properties, anything, shape}
use Rattle.sheet_heads.specs.declared.parts.Property.{Property}
use Rattle.sheet_heads.specs.declared.parts.Property.TheVariants as property
use Rattle.report.specs.ModuleInfo.{ImportAttribute, KeyValue, none, unknown, known}
use Rattle.report.specs.ModuleInfo as info
use Rattle.report.specs.Ascending.{Ascends}
use Rattle.attributes.specs.declared.props.Value.{Value}
use Rattle.attributes.specs.declared.props.Value.TheVariants as value
use Rattle.attributes.specs.declared.props.Keyed.{Keyed}
use Rattle.attributes.specs.declared.readings.ImportAttributes.{ImportAttributes}
use Rattle.attributes.specs.declared.readings.ImportAttributes.TheVariants as import_attributes
use Rattle.attributes.specs.declared.pairs.Pair.{Pair}
use Rattle.attributes.specs.code.Rows.{pair_as}
use Rattle.attributes.specs.Attributes.{insert, value_of, Prop, keyless, keyed, props}

-- what the code's answer stands for
abbrev pub attributes_as : ImportAttributes → info.ImportAttributes
attributes_as import_attributes.None = none
attributes_as import_attributes.Unknown = unknown
attributes_as (import_attributes.Known l) = known l.now

-- attributes from the bytes that begin with their Object, if there is one; else they are none, and u is left
unfoldable pub object_in : Decoder Attributes → Option (Bor (List ℕ)) → List ℕ → Decoded Attributes
object_in object None u = ok without u
object_in object (Some s) u = object s.now

-- the pairs of an Object where each key could be read
abbrev pub known_if : Bool → List KeyValue → info.ImportAttributes
known_if readable l = cond readable (known l) unknown

-- a test of pairs that goes by f
abbrev pub Tests : (Pair → Bool → Type 0) → (KeyValue → Bool) → Type 0
Tests answers f = (p : Pair) (r : Bool) → answers p r → r ≡ f (pair_as p)

-- a pair for which f is true, put in its place; any other is passed over
abbrev pub insert_if : (KeyValue → Bool) → KeyValue → List KeyValue → List KeyValue
insert_if f a l = cond (f a) (insert a l) l

-- the pairs for which f is true, put in their places in turn
unfoldable pub kept : (KeyValue → Bool) → List KeyValue → List Prop → List KeyValue
kept f l [] = l
kept f l (keyless ∷ es) = kept f l es
kept f l (keyed k v ∷ es) = kept f (insert_if f (record { key = k; value = value_of v }) l) es

-- each key can be read
unfoldable pub all_keyed : List Prop → Bool
all_keyed [] = true
all_keyed (keyless ∷ es) = false
all_keyed (keyed k v ∷ es) = all_keyed es

-- some pairs with another instead of the ith, or before it
abbrev pub slot_as : KeyValue → List KeyValue → Result ℕ ℕ → List KeyValue
slot_as a l (Ok i) = set l i a
slot_as a l (Err i) = list.insert l i a

abbrev pub SlotWithin : ℕ → Result ℕ ℕ → Type 0
SlotWithin n (Ok i) = i < n
SlotWithin n (Err i) = i ≤ n

-- neither a String nor an Object
abbrev pub is_other : Shape → Bool
is_other (text x) = false
is_other (named x) = true
is_other (pieces ps) = true
is_other (operation plus l r) = true
is_other (properties ps) = false
is_other anything = true

-- a shape as it was read, with so many levels left below the node
abbrev pub ValueIs : List ℕ → ℕ → Value → Shape → Type 0
ValueIs source levels (value.Text s) x = x ≡ text s.now
ValueIs source levels (value.Object n s) x =
    (ps : Properties) × (t : List ℕ) × (x ≡ properties ps) × (nodes.properties (node source levels) n s.now ≡ ok ps t)
ValueIs source levels value.Other x = is_other x ≡ true

-- of any bytes s: a text is a part of them; below an Object a level was left, it has not too many properties, and they are what s ends with
abbrev pub ValueWithin : List ℕ → ℕ → Value → Type 0
ValueWithin s levels (value.Text x) = PartOf x.now s
ValueWithin s levels (value.Object n x) = (0 < levels) × (n ≤ property_limit) × EndOf x.now s
ValueWithin s levels value.Other = Unit {0}

-- a value that is known is a part of s
abbrev pub KnownIn : List ℕ → ImportAttribute → Type 0
KnownIn s = IfThere (λ x. PartOf x s)

-- a pair is made of parts of s
abbrev pub PairIn : List ℕ → KeyValue → Type 0
PairIn s a = PartOf a.key s × KnownIn s a.value

-- so is each pair that is known
abbrev pub AttributesIn : List ℕ → info.ImportAttributes → Type 0
AttributesIn s none = Unit {0}
AttributesIn s unknown = Unit {0}
AttributesIn s (known l) = All (PairIn s) l

-- the same of an Object that there may be
abbrev pub AttributesInObject : Option (Bor (List ℕ)) → info.ImportAttributes → Type 0
AttributesInObject object a = IfThere (λ (s : Bor (List ℕ)). AttributesIn s.now a) object

-- the keys of the pairs that are known ascend
abbrev pub KeysAscend : info.ImportAttributes → Type 0
KeysAscend none = Unit {0}
KeysAscend unknown = Unit {0}
KeysAscend (known l) = Ascends l

-- a key that was read from s, with what is left at its value
abbrev pub KeyIn : List ℕ → Option Keyed → Type 0
KeyIn s = IfThere (λ (k : Keyed). PartOf k.key.now s × EndOf k.value.now s)

-- a property that was read from any bytes s
abbrev pub PropIn : List ℕ → ReadResult (Option Keyed) → Type 0
PropIn s = PastWith (λ p next. KeyIn s p × EndOf next.now s)

-- a property from its head, with what is left at its value
abbrev pub prop_in : Property → Bor (List ℕ) → Option Keyed
prop_in property.Spread s = None
prop_in property.Other s = None
prop_in property.ChildKey s = None
prop_in (property.StringKey k) s = then_some (exact k.now) (record { key = k; value = s })
prop_in (property.NameKey k) s = Some (record { key = k; value = s })

-- a property that is read from s, with u behind it, and seen as e
pub record SeenAs (inner : Decoder Node) (s u : List ℕ) (e : Prop) : Type 0 where
  pub add : Properties → Properties
  pub item : property_item inner s ≡ ok add u
  pub sees : (ps : Properties) → props (add ps) ≡ e ∷ props ps

-- a property that is read from s, with what is left behind it
abbrev pub KeyedIs : Decoder Node → List ℕ → Option Keyed → List ℕ → Type 0
KeyedIs inner s None u = SeenAs inner s u keyless
KeyedIs inner s (Some k) u = (v : Node) × (inner k.value.now ≡ ok v u) × SeenAs inner s u (keyed k.key.now (shape v))

abbrev pub PropIs : Decoder Node → List ℕ → ReadResult (Option Keyed) → Type 0
PropIs inner s (Ok p) = KeyedIs inner s p.0 p.1.now
PropIs inner s (Err r) = property_item inner s ≡ no (number_of r)
