-- The head of a node: its tag, its span and its fields up to its first child, or up to a template's pieces. A node is its head and then what follows it
-- (specs/Rest; proofs/ByHead, law `node_by_head`).
use Rattle.std.specs.Prelude.{Bool, cond, List, [], ◌∷◌, ℕ, ◌-◌, ltb, get_or}
use Rattle.std.specs.Prelude.{Option}
use Rattle.laws.specs.Decoded.{Decoder, on_ok, ◌>>=◌, return, refuse}
use Rattle.text.specs.declared.utf8.Encoding.TheVariants.{Utf8}
use Rattle.wire.specs.Refusals as refusals
use Rattle.wire.specs.Fields.{below, value_of, numbered, flag}
use Rattle.wire.specs.Number.{number}
use Rattle.wire.specs.Text.{count, text}
use Rattle.wire.specs.Optional.{optional}
use Rattle.sheet.specs.Limits.{text_limit, property_limit}
use Rattle.sheet.specs.declared.fields.Span.{Span}
use Rattle.sheet.specs.declared.names.ImportPhase.{ImportPhase}
use Rattle.sheet.specs.Names.{import_phases}
use Rattle.sheet.specs.Tree.{Quoted}
use Rattle.sheet.specs.Fields.{span}
use Rattle.sheet.specs.Nodes.{tag, string_text, quoted}

-- what the fields say; of 7, 8 and 9 with the flag of the attributes
pub data Head : Type 0 where
  other_head : ℕ → Head  -- 0: children
  string_head : List ℕ → Head  -- 1
  name_head : List ℕ → Head  -- 2
  template_head : ℕ → Head  -- 3: holes
  binary_head : Bool → Head  -- 4: is it a plus?
  object_head : ℕ → Head  -- 5: properties
  import_call_head : ImportPhase → Head  -- 6, of an import
  call_head : Head  -- 6, of an expression
  import_head : Bool → ImportPhase → Bool → Quoted → Bool → Head  -- 7: type-only, phase, side effect
  named_export_head : Bool → Head  -- 8, without a String: type-only
  export_from_head : Bool → Quoted → Bool → Head  -- 8, with a String
  export_all_head : Bool → Quoted → Bool → Head  -- 9: type-only
  import_type_head : Quoted → ℕ → Head  -- 10: children
  import_equals_head : Head  -- 11, not external
  import_require_head : Bool → Bool → Quoted → Head  -- 11, external: type-only, export
  module_head : Option Quoted → ℕ → Head  -- 12: children

unfoldable pub call_start : Decoder Head
call_start = do
  callee ← below 4
  cond (ltb callee 3) (return (import_call_head (value_of import_phases callee))) (return call_head)

-- where so many levels are left below the node
module _ (source : List ℕ) (levels : ℕ) where
  -- a String, and the flag of the attributes behind it
  unfoldable pub specifier_start : Decoder (Quoted × Bool)
  specifier_start = do
    x ← quoted source levels
    has_object ← flag
    return (x, has_object)

  unfoldable pub import_start : Decoder Head
  import_start = do
    type_only ← flag
    phase ← numbered import_phases
    side_effect ← flag
    p ← specifier_start
    return (import_head type_only phase side_effect p.0 p.1)

  unfoldable pub named_export_start : Decoder Head
  named_export_start = do
    type_only ← flag
    named ← flag
    cond named
        (specifier_start >>= λ p. return (export_from_head type_only p.0 p.1))
        (return (named_export_head type_only))

  unfoldable pub export_all_start : Decoder Head
  export_all_start = do
    type_only ← flag
    p ← specifier_start
    return (export_all_head type_only p.0 p.1)

  unfoldable pub import_type_start : Decoder Head
  import_type_start = do
    x ← quoted source levels
    n ← number
    return (import_type_head x n)

  unfoldable pub import_require_start : Decoder Head
  import_require_start = do
    type_only ← flag
    export ← flag
    x ← quoted source levels
    return (import_require_head type_only export x)

  unfoldable pub import_equals_start : Decoder Head
  import_equals_start = do
    external ← flag
    cond external import_require_start (return import_equals_head)

  unfoldable pub module_start : Decoder Head
  module_start = do
    x ← optional (quoted source levels)
    n ← number
    return (module_head x n)

  -- the fields of a head, by the span and the tag
  unfoldable pub start : Span → ℕ → Decoder Head
  start sp t =
      get_or
      ((λ s. on_ok other_head (number s))
      ∷ (λ s. on_ok string_head (string_text source sp s))
      ∷ (λ s. on_ok name_head (text Utf8 text_limit s))
      ∷ (λ s. on_ok template_head (number s))
      ∷ (λ s. on_ok binary_head (flag s))
      ∷ (λ s. on_ok object_head (count property_limit s))
      ∷ call_start ∷ import_start ∷ named_export_start ∷ export_all_start ∷ import_type_start ∷ import_equals_start ∷ module_start ∷ [])
      t
      (refuse refusals.byte)

-- the head of a node with so many levels left, its own among them
unfoldable pub head : List ℕ → ℕ → Decoder (Span × Head)
head source levels = do
  t ← tag (λ t. ltb t 13) levels
  sp ← span source
  h ← start source (levels - 1) sp t
  return (sp, h)
