-- The attributes of an import without a reading from the front: which pairs there are, and where all of it is none or unknown.
use Rattle.std.specs.Prelude.{◌≡◌, Bool, true, false, ◌⊎◌, ◌↔◌, ℕ}
use mathlib.Core.List.{List, ◌∷◌, ◌++◌, Memᴰ}
use Rattle.std.specs.Prelude.{None, Some}
use Rattle.laws.specs.Ascii.{ascii}
use Rattle.text.specs.Lossy.{exact}
use Rattle.sheet.specs.declared.fields.Span.{Span}
use Rattle.sheet.specs.Tree.{Node, Arguments, no_arguments, argument, Properties, Attributes, without, with_object}
use Rattle.sheet.specs.Shape.{Shape, text, properties, shape}
use Rattle.report.specs.ModuleInfo.{ImportAttribute, KeyValue, ImportAttributes, none, unknown, known}
use Rattle.report.specs.Ascending.{Ascends}
use Rattle.attributes.specs.Attributes.{Prop, keyless, keyed, props}

-- a value that is an exact string: a String without a surrogate
abbrev pub IsString : Shape → Type 0
IsString v = (x : List ℕ) × (v ≡ text x) × (exact x ≡ true)

-- every value counts
abbrev pub Any : Shape → Type 0
Any v = Unit {0}

-- what is reported of a value: its text, or that it is unknown
abbrev pub Value : Shape → ImportAttribute → Type 0
Value v (Some x) = (v ≡ text x) × (exact x ≡ true)
Value v None = IsString v → ⊥

module _ (Counts : Shape → Type 0) where
  -- some property with the key counts, or none does
  abbrev pub SomeOf : List ℕ → List Prop → Type 0
  SomeOf k es = (v : Shape) × Counts v × Memᴰ (keyed k v) es

  abbrev pub NoneOf : List ℕ → List Prop → Type 0
  NoneOf k es = SomeOf k es → ⊥

  -- the last property with the key that counts has the value v
  pub data LastOf (k : List ℕ) (v : Shape) : List Prop → Type 0 where
    here : {e : Prop} {es : List Prop} → keyed k v ≡ e → Counts v → NoneOf k es → LastOf k v (e ∷ es)
    behind : {e : Prop} {es : List Prop} → LastOf k v es → LastOf k v (e ∷ es)

  -- the pairs of some properties: keys ascend, each pair is that of the last property with its key that counts, and such a key is there
  pub record PairsOf (es : List Prop) (l : List KeyValue) : Type 0 where
    pub ascend : Ascends l
    pub each : (a : KeyValue) → Memᴰ a l ↔ ((v : Shape) × LastOf a.key v es × Value v a.value)
    pub keys : (k : List ℕ) → ((a : KeyValue) × Memᴰ a l × (a.key ≡ k)) ↔ SomeOf k es

-- static attributes: only exact strings count, and the rest is passed over
pub data StaticOf : Attributes → ImportAttributes → Type 0 where
  no_object : StaticOf without none
  pairs : {sp : Span} {ps : Properties} {l : List KeyValue} → PairsOf IsString (props ps) l → StaticOf (with_object sp ps) (known l)

-- an Object of an import type or a dynamic import: a key that cannot be read makes it unknown; else every value counts
pub data ObjectOf (es : List Prop) : ImportAttributes → Type 0 where
  unreadable : Memᴰ keyless es → ObjectOf es unknown
  pairs : {l : List KeyValue} → (Memᴰ keyless es → ⊥) → PairsOf Any es l → ObjectOf es (known l)

pub data TypeOf : Attributes → ImportAttributes → Type 0 where
  no_object : TypeOf without none
  object : {sp : Span} {ps : Properties} {a : ImportAttributes} → ObjectOf (props ps) a → TypeOf (with_object sp ps) a

-- a value that is to hold attributes: what is no Object is unknown
pub data Holds : Shape → ImportAttributes → Type 0 where
  object : {v : Shape} {ps : Properties} {a : ImportAttributes} → v ≡ properties ps → ObjectOf (props ps) a → Holds v a
  other : {v : Shape} → ((ps : Properties) → v ≡ properties ps → ⊥) → Holds v unknown

abbrev pub with' : List ℕ
with' = ascii "with"

abbrev pub assert' : List ℕ
assert' = ascii "assert"

-- v is the value of a `with`, or of an `assert` that no `with` stands before
pub record Asserted (v : Shape) (es : List Prop) : Type 0 where
  pub front : List Prop
  pub back : List Prop
  pub among : es ≡ front ++ keyed assert' v ∷ back
  pub no_with : NoneOf Any with' front

abbrev pub Counting : Shape → List Prop → Type 0
Counting v es = Memᴰ (keyed with' v) es ⊎ Asserted v es

-- every key can be read, and every value that counts is an Object whose keys can be read
pub record Readable (es : List Prop) : Type 0 where
  pub keys : Memᴰ keyless es → ⊥
  pub values : (v : Shape) → Counting v es → Holds v unknown → ⊥

-- the properties of a dynamic import's second argument: the last `with` counts, or the last `assert` where there is no `with`
pub data SecondOf (es : List Prop) : ImportAttributes → Type 0 where
  unreadable : Memᴰ keyless es → SecondOf es unknown
  unknown_value : {v : Shape} → Counting v es → Holds v unknown → SecondOf es unknown
  neither : Readable es → NoneOf Any with' es → NoneOf Any assert' es → SecondOf es none
  last_with : {v : Shape} {l : List KeyValue} → Readable es → LastOf Any with' v es → Holds v (known l) → SecondOf es (known l)
  last_assert : {v : Shape} {l : List KeyValue} → Readable es → NoneOf Any with' es → LastOf Any assert' v es → Holds v (known l) → SecondOf es (known l)

-- a dynamic import's, from the arguments behind the first: a spread, or what is no Object, is unknown
pub data DynamicOf : Arguments → ImportAttributes → Type 0 where
  no_second : DynamicOf no_arguments none
  spread : {dots : Bool} {at : Span} {n : Node} {xs : Arguments} → dots ≡ true → DynamicOf (argument dots at n xs) unknown
  no_object : {dots : Bool} {at : Span} {n : Node} {xs : Arguments} → ((ps : Properties) → shape n ≡ properties ps → ⊥)
      → DynamicOf (argument dots at n xs) unknown
  object : {dots : Bool} {at : Span} {n : Node} {xs : Arguments} {ps : Properties} {a : ImportAttributes} → dots ≡ false → shape n ≡ properties ps
      → SecondOf (props ps) a
      → DynamicOf (argument dots at n xs) a
