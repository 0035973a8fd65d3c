-- Properties with the attributes that each reading gives, as the definitions compute.
use Rattle.std.specs.Prelude.{Some, None}
use Rattle.laws.proofs.Prelude.{◌≡◌, refl, true, false, List, [], ◌∷◌, map, ℕ}
use Prim.Native.String.{String}
use Rattle.laws.specs.Ascii.{ascii}
use Rattle.text.specs.{Bytes.same, Bytes.order, Lossy.surrogates, Utf8.admits}
use Rattle.sheet.specs.declared.fields.Span.{Span}
use Rattle.sheet.specs.Tree.{Node, other, string, object, Arguments, no_arguments, argument, Properties, no_properties, spread, string_key, name_key}
use Rattle.sheet.specs.Tree.{with_object}
use Rattle.sheet.specs.Tree as tree
use Rattle.report.specs.ModuleInfo.{KeyValue, ImportAttributes, none, unknown, known}
use Rattle.attributes.specs.Attributes.{insert, props, static_pairs, static_attributes, object_attributes, type_attributes, argument_properties}
use Rattle.attributes.specs.Attributes.{dynamic_attributes}

abbrev sp : Span
sp = record { start = 0; end = 0 }

abbrev text : String → Node
text x = string sp (ascii x)

abbrev anything : Node
anything = other sp tree.none

abbrev key : String → Node → Properties → Properties
key k v ps = name_key (ascii k) v ps

-- a pair with a known value, and one without
abbrev pair : String → String → KeyValue
pair k v = record { key = ascii k; value = Some (ascii v) }

abbrev without : String → KeyValue
without k = record { key = ascii k; value = None }

-- a key that is a surrogate
abbrev surrogate : List ℕ
surrogate = 0xED ∷ 0xA0 ∷ 0x80 ∷ []

-- properties, and what they give behind a declaration and behind an import type
abbrev Case : Type 0
Case = Properties × ImportAttributes × ImportAttributes

abbrev cases : List Case
cases =
    (no_properties, known [], known [])
    ∷ (key "b" (text "1") (key "a" (text "2") no_properties), known (pair "a" "2" ∷ pair "b" "1" ∷ []), known (pair "a" "2" ∷ pair "b" "1" ∷ []))
    ∷ (key "a" (text "1") (key "a" (text "2") no_properties), known (pair "a" "2" ∷ []), known (pair "a" "2" ∷ []))  -- the later wins
    ∷ (key "a" (text "1") (key "a" anything no_properties), known (pair "a" "1" ∷ []), known (without "a" ∷ []))  -- a value that is no string
    ∷ (key "a" (text "1") (key "a" (string sp surrogate) no_properties), known (pair "a" "1" ∷ []), known (without "a" ∷ []))
    ∷ (key "a" (text "1") (spread anything no_properties), known (pair "a" "1" ∷ []), unknown)
    ∷ (string_key surrogate (text "1") (key "a" (text "2") no_properties), known (pair "a" "2" ∷ []), unknown)
    ∷ (key "ab" (text "1") (key "a" (text "2") no_properties), known (pair "a" "2" ∷ pair "ab" "1" ∷ []), known (pair "a" "2" ∷ pair "ab" "1" ∷ []))
    ∷ []

-- a second argument with such properties
abbrev second : Properties → Arguments
second ps = argument false sp (object sp ps) no_arguments

abbrev one : String → Node
one v = object sp (key "type" (text v) no_properties)

-- arguments behind the first, and what they give
abbrev dynamic_cases : List (Arguments × ImportAttributes)
dynamic_cases =
    (no_arguments, none)
    ∷ (argument true sp (one "json") no_arguments, unknown)
    ∷ (argument false sp anything no_arguments, unknown)
    ∷ (second (key "other" anything no_properties), none)
    ∷ (second (key "with" (one "json") no_properties), known (pair "type" "json" ∷ []))
    ∷ (second (key "with" (one "json") (key "assert" (one "text") no_properties)), known (pair "type" "json" ∷ []))  -- `assert` after `with`
    ∷ (second (key "assert" (one "text") (key "with" (one "json") no_properties)), known (pair "type" "json" ∷ []))
    ∷ (second (key "assert" (one "text") (key "assert" (one "json") no_properties)), known (pair "type" "json" ∷ []))
    ∷ (second (key "with" anything no_properties), unknown)
    ∷ (second (key "with" (one "json") (spread anything no_properties)), unknown)
    ∷ (second (string_key surrogate anything no_properties), unknown)
    ∷ []

as_stated : (map (λ (c : Case). static_attributes (with_object sp c.0)) cases ≡ map (λ (c : Case). c.1) cases)
    × (map (λ (c : Case). type_attributes (with_object sp c.0)) cases ≡ map (λ (c : Case). c.2) cases)
    × (map (λ (c : Arguments × ImportAttributes). dynamic_attributes c.0) dynamic_cases ≡ map (λ (c : Arguments × ImportAttributes). c.1) dynamic_cases)
unfolding same order surrogates admits insert props static_pairs static_attributes object_attributes type_attributes argument_properties dynamic_attributes
as_stated = (refl, refl, refl)
