-- The heads of the other parts of a node that hold nodes: properties, arguments, and an Object that holds attributes.
use Rattle.std.specs.Prelude.{Bool, List, [], ◌∷◌, ℕ, eqb, get_or}
use Rattle.laws.specs.Decoded.{Decoder, on_ok, ◌>>=◌, ◌>>◌, return, refuse}
use Rattle.text.specs.declared.utf8.Encoding.TheVariants.{Utf8, Wtf8}
use Rattle.wire.specs.Refusals as refusals
use Rattle.wire.specs.Fields.{byte, flag}
use Rattle.wire.specs.Text.{count, text}
use Rattle.sheet.specs.Limits.{text_limit, property_limit}
use Rattle.sheet.specs.declared.fields.Span.{Span}
use Rattle.sheet.specs.Fields.{span}
use Rattle.sheet.specs.Nodes.{tag}

-- a property up to its first node
pub data PropertyHead : Type 0 where
  spread_head : PropertyHead
  other_property_head : PropertyHead
  child_key_head : PropertyHead
  string_key_head : List ℕ → PropertyHead
  name_key_head : List ℕ → PropertyHead

-- a key, by its byte
unfoldable pub key_head : ℕ → Decoder PropertyHead
key_head kind =
    get_or
    (return child_key_head
    ∷ (λ s. on_ok string_key_head (text Wtf8 text_limit s))
    ∷ (λ s. on_ok name_key_head (text Utf8 text_limit s))
    ∷ [])
    kind
    (refuse refusals.byte)

unfoldable pub property_head : Decoder PropertyHead
property_head = do
  kind ← byte
  get_or
      (return spread_head
      ∷ return other_property_head
      ∷ (byte >>= key_head)
      ∷ [])
      kind
      (refuse refusals.byte)

-- an argument up to its node: is it spread, and its span
unfoldable pub argument_head : List ℕ → Decoder (Bool × Span)
argument_head source = do
  dots ← flag
  sp ← span source
  return (dots, sp)

-- an Object that holds attributes up to its properties: its span, and their number
unfoldable pub attributes_head : List ℕ → ℕ → Decoder (Span × ℕ)
attributes_head source levels = do
  tag (eqb 5) levels
  sp ← span source
  n ← count property_limit
  return (sp, n)
