-- A node is its head and what follows it; so are a property, an argument and an Object that holds attributes.
use Rattle.laws.proofs.Prelude.{◌≡◌, refl, sym, ◌∙◌, Bool, true, false, List, ℕ, zero, suc, ◌-◌, arith, eqb, ltb}
use Rattle.laws.specs.Decoded.{Decoded, ok, no, and_then, Decoder, ◌>>=◌, ◌>>◌, return, refuse, require}
use Rattle.laws.proofs.Decoding.{refused, then_then}
use Rattle.laws.proofs.Splits.{Splits, ends, first, one, either, done, next, at_index}
use Rattle.text.specs.declared.utf8.Encoding.TheVariants.{Utf8, Wtf8}
use Rattle.wire.specs.Fields.{byte, below, numbered, flag}
use Rattle.wire.specs.{Number.number, Text.count, Text.text, Optional.optional}
use Rattle.sheet.specs.{Limits.text_limit, Limits.property_limit, Names.import_phases, declared.fields.Span.Span, Fields.span}
use Rattle.sheet.specs.Tree.{Quoted, Node, import_decl, export_from, export_all, Arguments, argument, Properties, spread, other_property, child_key, string_key}
use Rattle.sheet.specs.Tree.{name_key, Attributes, with_object}
use Rattle.sheet.specs.Nodes.{tag, string_text, quoted, properties, attributes, other_fields, string_fields, name_fields, template_fields, binary_fields}
use Rattle.sheet.specs.Nodes.{object_fields, call_fields, import_fields, named_export_fields, export_all_fields, import_type_fields, import_equals_fields}
use Rattle.sheet.specs.Nodes.{module_fields, fields, argument_item, keyed_item, property_item, node, attributes_object}
use Rattle.sheet_heads.specs.code.Head.{Head, other_head, string_head, name_head, template_head, binary_head, object_head, import_head, export_from_head}
use Rattle.sheet_heads.specs.code.Head.{export_all_head, call_start, specifier_start, import_start, named_export_start, export_all_start, import_type_start}
use Rattle.sheet_heads.specs.code.Head.{import_require_start, import_equals_start, module_start, start, head}
use Rattle.sheet_heads.specs.code.Parts.{PropertyHead, spread_head, other_property_head, child_key_head, string_key_head, name_key_head, key_head}
use Rattle.sheet_heads.specs.code.Parts.{property_head, argument_head, attributes_head}
use Rattle.sheet_heads.specs.code.Rest.{behind, rest_of, rest}

-- what follows the head of an Object that holds attributes, where so many levels are left below it, of an argument and of a property
abbrev pub attributes_rest : List ℕ → ℕ → Span × ℕ → Decoder Attributes
attributes_rest source levels p = properties (node source levels) p.1 >>= λ ps. return (with_object p.0 ps)

module _ (inner : Decoder Node) where
  abbrev pub argument_rest : Bool × Span → Decoder (Arguments → Arguments)
  argument_rest p = inner >>= λ n. return (argument p.0 p.1 n)

  abbrev pub property_rest : PropertyHead → Decoder (Properties → Properties)
  property_rest spread_head = inner >>= λ n. return (spread n)
  property_rest other_property_head = inner >>= λ n. return (other_property n)
  property_rest child_key_head = inner >>= λ k. inner >>= λ v. return (child_key k v)
  property_rest (string_key_head x) = inner >>= λ v. return (string_key x v)
  property_rest (name_key_head x) = inner >>= λ v. return (name_key x v)

abbrev with_flag : Quoted → Bool → Decoder (Quoted × Bool)
with_flag x has_object = return (x, has_object)

module _ (source : List ℕ) (levels : ℕ) (inner : Decoder Node) (object' : Decoder Attributes) (sp : Span) where
  abbrev From : Decoder Node → Decoder Head → Type 0
  From d h = Splits (rest_of source levels inner object' sp) d h

  by_call : From (call_fields source levels inner object' sp) call_start
  unfolding call_fields call_start
  by_call = first (below 4) λ callee. either (ltb callee 3) (ends λ s. refl) (ends λ s. refl)

  -- a String with attributes
  by_specifier : (f : Quoted → Attributes → Node) (h : Quoted → Bool → Head)
      → ((x : Quoted) (has_object : Bool) (s : List ℕ) →
      rest_of source levels inner object' sp (h x has_object) s ≡ (behind has_object object' >>= λ a. return (f x a)) s)
      → From (quoted source levels >>= λ x. attributes object' >>= λ a. return (f x a)) (specifier_start source levels >>= λ p. return (h p.0 p.1))
  unfolding attributes specifier_start
  by_specifier f h e = record { at = λ s. go (quoted source levels s) }
    where
      flagged : (x : Quoted) (y : Decoded Bool)
          → and_then (and_then y (λ has_object. behind has_object object')) (λ a. return (f x a))
          ≡ and_then (and_then (and_then y (with_flag x)) (λ p. return (h p.0 p.1))) (rest_of source levels inner object' sp)
      flagged x (ok has_object t) = sym (e x has_object t)
      flagged x (no r) = refl

      go : (y : Decoded Quoted)
          → and_then y (λ x. attributes object' >>= λ a. return (f x a))
          ≡ and_then (and_then (and_then y (λ x. flag >>= with_flag x)) (λ p. return (h p.0 p.1))) (rest_of source levels inner object' sp)
      go (ok x t) = flagged x (flag t)
      go (no r) = refl

  by_import : From (import_fields source levels inner object' sp) (import_start source levels)
  unfolding import_fields import_start
  by_import =
      first flag λ type_only. first (numbered import_phases) λ phase. first flag λ side_effect. by_specifier (import_decl sp type_only phase side_effect)
      (import_head type_only phase side_effect) (λ x has_object s. refl)

  by_named_export : From (named_export_fields source levels inner object' sp) (named_export_start source levels)
  unfolding named_export_fields named_export_start
  by_named_export = first flag λ type_only. first flag λ named. either named
      (by_specifier (export_from sp type_only) (export_from_head type_only) (λ x has_object s. refl))
      (ends λ s. refl)

  by_export_all : From (export_all_fields source levels inner object' sp) (export_all_start source levels)
  unfolding export_all_fields export_all_start
  by_export_all = first flag λ type_only. by_specifier (export_all sp type_only) (export_all_head type_only) (λ x has_object s. refl)

  by_import_type : From (import_type_fields source levels inner object' sp) (import_type_start source levels)
  unfolding import_type_fields import_type_start
  by_import_type = first (quoted source levels) λ x. first number λ n. ends λ s. refl

  by_import_equals : From (import_equals_fields source levels inner object' sp) (import_equals_start source levels)
  unfolding import_equals_fields import_equals_start import_require_start
  by_import_equals = first flag λ external. either external
      (first flag λ type_only. first flag λ export. first (quoted source levels) λ x. ends λ s. refl)
      (ends λ s. refl)

  by_module : From (module_fields source levels inner object' sp) (module_start source levels)
  unfolding module_fields module_start
  by_module = first (optional (quoted source levels)) λ x. first number λ n. ends λ s. refl

  by_tag : (t : ℕ) → From (fields source levels inner object' sp t) (start source levels sp t)
  unfolding fields start other_fields string_fields name_fields template_fields binary_fields object_fields
  by_tag t = at_index
      (next (one number other_head (λ n s. refl))
      (next (one (string_text source sp) string_head (λ x s. refl))
      (next (one (text Utf8 text_limit) name_head (λ x s. refl))
      (next (one number template_head (λ n s. refl))
      (next (one flag binary_head (λ plus s. refl))
      (next (one (count property_limit) object_head (λ n s. refl))
      (next by_call (next by_import (next by_named_export (next by_export_all (next by_import_type (next by_import_equals (next by_module done)))))))))))))
      t 3

-- with no level left there is no tag, whatever is read behind it
no_level : {A B : Type 0} (allowed : ℕ → Bool) (s : List ℕ) (f : ℕ → Decoder A) (g : A → Decoder B) (d : Decoder B)
    → (tag allowed 0 >> d) s ≡ and_then ((tag allowed 0 >>= f) s) g
unfolding tag
no_level allowed s f g d = go (byte s)
  where
    judged : (b : Bool) (t : ℕ) (u : List ℕ)
        → and_then (and_then (require b 3 u) (λ v. require (ltb 0 0) 4 >> return t)) (λ t. d)
        ≡ and_then (and_then (and_then (require b 3 u) (λ v. require (ltb 0 0) 4 >> return t)) f) g
    judged true t u = refl
    judged false t u = refl

    go : (x : Decoded ℕ)
        → and_then (and_then x (λ t. require (allowed t) 3 >> (require (ltb 0 0) 4 >> return t))) (λ t. d)
        ≡ and_then (and_then (and_then x (λ t. require (allowed t) 3 >> (require (ltb 0 0) 4 >> return t))) f) g
    go (ok t u) = judged (allowed t) t u
    go (no r) = refl

pub node_by_head : (source : List ℕ) (levels : ℕ) (s : List ℕ) → node source levels s ≡ and_then (head source levels s) (rest source (levels - 1))
unfolding node head
node_by_head source zero s = no_level (λ t. ltb t 13) s _ (rest source (zero - 1)) (refuse 4)
node_by_head source (suc d) s = let down : suc d - 1 ≡ d = omega arith in rw down (by_parts.at s)
  where
    by_parts : Splits (rest source d)
        (tag (λ t. ltb t 13) (suc d) >>= λ t. span source >>= λ sp. fields source d (node source d) (attributes_object source d) sp t)
        (tag (λ t. ltb t 13) (suc d) >>= λ t. span source >>= λ sp. start source d sp t >>= λ h. return (sp, h))
    by_parts = first (tag (λ t. ltb t 13) (suc d)) λ t. first (span source) λ sp.
        record {
          at = λ s. (by_tag source d (node source d) (attributes_object source d) sp t).at s ∙
              sym (then_then (start source d sp t s) (λ h. return (sp, h)) (rest source d));
        }

-- a node's head, and what is read behind it; without a head there is no node
module _ (source : List ℕ) (levels : ℕ) (u : List ℕ) {v : Node} {t : List ℕ} (e : node source levels u ≡ ok v t) where
  pub behind_head : {p : Span × Head} {w : List ℕ} → head source levels u ≡ ok p w → rest source (levels - 1) p w ≡ ok v t
  behind_head f = rw f at (sym (node_by_head source levels u) ∙ e)

  pub no_head : {r : ℕ} → head source levels u ≡ no r → ⊥
  no_head f = refused (rw f at (sym (node_by_head source levels u) ∙ e))

pub attributes_by_head : (source : List ℕ) (levels : ℕ) (s : List ℕ)
    → attributes_object source levels s ≡ and_then (attributes_head source levels s) (attributes_rest source (levels - 1))
unfolding attributes_object attributes_head
attributes_by_head source zero s = no_level (eqb 5) s _ (attributes_rest source (zero - 1)) (refuse 4)
attributes_by_head source (suc d) s = let down : suc d - 1 ≡ d = omega arith in rw down (by_parts.at s)
  where
    by_parts : Splits (attributes_rest source d)
        (tag (eqb 5) (suc d) >>= λ t. span source >>= λ sp. count property_limit >>= λ n. attributes_rest source d (sp, n))
        (tag (eqb 5) (suc d) >>= λ t. span source >>= λ sp. count property_limit >>= λ n. return (sp, n))
    by_parts = first (tag (eqb 5) (suc d)) λ t. first (span source) λ sp. first (count property_limit) λ n. ends λ s. refl

module _ (inner : Decoder Node) where
  pub argument_by_head : (source s : List ℕ) → argument_item inner source s ≡ and_then (argument_head source s) (argument_rest inner)
  unfolding argument_item argument_head
  argument_by_head source s = by_parts.at s
    where
      by_parts : Splits (argument_rest inner) (flag >>= λ dots. span source >>= λ sp. argument_rest inner (dots, sp))
          (flag >>= λ dots. span source >>= λ sp. return (dots, sp))
      by_parts = first flag λ dots. first (span source) λ sp. ends λ s. refl

  by_key : (kind : ℕ) → Splits (property_rest inner) (keyed_item inner kind) (key_head kind)
  unfolding keyed_item key_head
  by_key kind = at_index
      (next (ends λ s. refl)
      (next (one (text Wtf8 text_limit) string_key_head (λ x s. refl))
      (next (one (text Utf8 text_limit) name_key_head (λ x s. refl)) done)))
      kind 3

  pub property_by_head : (s : List ℕ) → property_item inner s ≡ and_then (property_head s) (property_rest inner)
  unfolding property_item property_head
  property_by_head s = (first byte λ kind. at_index (next (ends λ s. refl) (next (ends λ s. refl) (next (first byte by_key) done))) kind 3).at s
