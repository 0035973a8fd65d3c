-- The attributes of an import: the three readings of src/ast/dep.rs. Keys ascend by their bytes, and a later value replaces an earlier one.
use Rattle.std.specs.Prelude.{Bool, false, cond, not, ◌&&◌, ◌||◌, List, [], ◌∷◌, ℕ}
use Rattle.std.specs.Prelude.{None, Some}
use Rattle.laws.specs.Ascii.{ascii}
use Rattle.std.specs.declared.cmp.Ordering.{Ordering}
use Rattle.std.specs.declared.cmp.Ordering.TheVariants.{Less, Equal, Greater}
use Rattle.text.specs.Bytes.{same, order}
use Rattle.text.specs.Lossy.{exact}
use Rattle.sheet.specs.Tree.{Arguments, no_arguments, argument, Properties, no_properties, spread, other_property, child_key, string_key, name_key}
use Rattle.sheet.specs.Tree.{Attributes, without, with_object}
use Rattle.sheet.specs.Shape.{Shape, text, named, pieces, operation, properties, anything, shape}
use Rattle.report.specs.ModuleInfo.{ImportAttribute, KeyValue, ImportAttributes, none, unknown, known}

-- a pair put in its place among pairs whose keys ascend: before a greater key, instead of an equal one, or further on
abbrev pub placed : Ordering → KeyValue → KeyValue → List KeyValue → List KeyValue → List KeyValue
placed Less a b l further = a ∷ b ∷ l
placed Equal a b l further = a ∷ l
placed Greater a b l further = b ∷ further

unfoldable pub insert : KeyValue → List KeyValue → List KeyValue
insert a [] = a ∷ []
insert a (b ∷ l) = placed (order a.key b.key) a b l (insert a l)

-- the value of an attribute: a String that has no surrogate
abbrev pub value_of : Shape → ImportAttribute
value_of (text x) = cond (exact x) (Some x) None
value_of (named x) = None
value_of (pieces ps) = None
value_of (operation plus l r) = None
value_of (properties ps) = None
value_of anything = None

-- a property as the readings see it: without a key that can be read, or a key and what its value is
pub data Prop : Type 0 where
  keyless : Prop
  keyed : List ℕ → Shape → Prop

unfoldable pub props : Properties → List Prop
props no_properties = []
props (spread n ps) = keyless ∷ props ps
props (other_property n ps) = keyless ∷ props ps
props (child_key k v ps) = keyless ∷ props ps
props (string_key k v ps) = cond (exact k) (keyed k (shape v)) keyless ∷ props ps
props (name_key k v ps) = keyed k (shape v) ∷ props ps

-- `parse_import_attributes`: what is no key with a string value is passed over
abbrev pub insert_known : List ℕ → ImportAttribute → List KeyValue → List KeyValue
insert_known k None l = l
insert_known k (Some x) l = insert (record { key = k; value = Some x }) l

unfoldable pub static_pairs : List KeyValue → List Prop → List KeyValue
static_pairs l [] = l
static_pairs l (keyless ∷ es) = static_pairs l es
static_pairs l (keyed k v ∷ es) = static_pairs (insert_known k (value_of v) l) es

unfoldable pub static_attributes : Attributes → ImportAttributes
static_attributes without = none
static_attributes (with_object sp ps) = known (static_pairs [] (props ps))

-- `parse_import_attributes_from_object_lit`: a property without a readable key makes all of it unknown; a value that is no string is unknown
unfoldable pub object_attributes : List KeyValue → List Prop → ImportAttributes
object_attributes l [] = known l
object_attributes l (keyless ∷ es) = unknown
object_attributes l (keyed k v ∷ es) = object_attributes (insert (record { key = k; value = value_of v }) l) es

-- of an import type
unfoldable pub type_attributes : Attributes → ImportAttributes
type_attributes without = none
type_attributes (with_object sp ps) = object_attributes [] (props ps)

-- the attributes of an Object; of anything else unknown
abbrev pub of_object : (List Prop → ImportAttributes) → Shape → ImportAttributes
of_object of (text x) = unknown
of_object of (named x) = unknown
of_object of (pieces ps) = unknown
of_object of (operation plus l r) = unknown
of_object of (properties ps) = of (props ps)
of_object of anything = unknown

-- on with known pairs, and out with any other value
abbrev pub on_known : (ImportAttributes → ImportAttributes) → ImportAttributes → ImportAttributes
on_known more none = none
on_known more unknown = unknown
on_known more (known l) = more (known l)

-- `with`, or `assert` if no `with` came before it
abbrev pub is_attributes_key : Bool → List ℕ → Bool
is_attributes_key had_with k = same k (ascii "with") || (same k (ascii "assert") && not had_with)

-- such a key's Object is read; another key is passed over. `more` goes on with whether a `with` was met, and with what was found
abbrev pub on_key : Bool → List ℕ → Shape → (Bool → ImportAttributes → ImportAttributes) → ImportAttributes → ImportAttributes
on_key had_with k v more found =
    cond (is_attributes_key had_with k) (on_known (more (same k (ascii "with"))) (of_object (object_attributes []) v)) (more had_with found)

-- `parse_dynamic_import_attributes` on the properties of the second argument
unfoldable pub argument_properties : Bool → ImportAttributes → List Prop → ImportAttributes
argument_properties had_with found [] = found
argument_properties had_with found (keyless ∷ es) = unknown
argument_properties had_with found (keyed k v ∷ es) = on_key had_with k v (λ with' found'. argument_properties with' found' es) found

-- from the arguments behind the first
unfoldable pub dynamic_attributes : Arguments → ImportAttributes
dynamic_attributes no_arguments = none
dynamic_attributes (argument dots sp n xs) = cond dots unknown (of_object (argument_properties false none) (shape n))
