-- Codecs of nodes, from those of the nodes one level down.
use Rattle.laws.proofs.Prelude.{◌≡◌, refl, inl, inr, List, [], ◌∷◌, ◌++◌, flat_map, ℕ, ◌≤◌, length}
use Rattle.laws.specs.Decoded.{Decoder, ◌>>=◌, return}
use Rattle.laws.specs.Codec.{Codec, IfThere, All}
use Rattle.laws.proofs.Decoding.{refused}
use Rattle.laws.proofs.Codecs.{Built, built_map, built_then, built_end, built_free}
use Rattle.text.specs.declared.utf8.Encoding.TheVariants.{Utf8, Wtf8}
use Rattle.wire.specs.{Fields.byte, Fields.encode_flag, Number.largest, Text.text, Text.encode_text, Optional.optional, Optional.encode_optional}
use Rattle.wire.proofs.{TextCodec.flag_codec, OptionalCodec.optional_codec}
use Rattle.sheet.specs.{Limits.text_limit, Fields.encode_span}
use Rattle.sheet.specs.Tree.{Pieces, Node, none, more, Arguments, no_arguments, argument, Properties, no_properties, spread, other_property, child_key}
use Rattle.sheet.specs.Tree.{string_key, name_key}
use Rattle.sheet.specs.Nodes.{many, piece, nodes, argument_item, arguments, keyed_item, property_item, properties}
use Rattle.sheet_codec.specs.Encode.{nodes_in, arguments_in, properties_in, encode_node, encode_nodes, encode_arguments, encode_properties}
use Rattle.sheet_codec.specs.Limits.{TextFits, NodeFits, NodesFit, ArgumentsFit, PropertiesFit}
use Rattle.sheet_codec.proofs.Building.{done, next, at_index}
use Rattle.sheet_codec.proofs.Lists.{AddsItem, Opens, reads_built, reads_byte, many_codec}
use Rattle.sheet_codec.proofs.{Parts.span_codec, Strings.short_text_lem}

-- the pieces of a template
pub pieces_codec : (k : ℕ)
    → Codec (many [] piece k) (flat_map (encode_optional encode_text)) (λ ps. (length ps ≡ k) × All (IfThere (TextFits Wtf8 text_limit)) ps)
unfolding piece flat_map
pieces_codec = many_codec length (flat_map (encode_optional encode_text)) (All (IfThere (TextFits Wtf8 text_limit))) (record {
  empty = (refl, refl, tt);
  reads = reads_built _ _ _ (built_end piece_text (λ x. x ∷◌)) [] (λ x v ps. (refl, refl, λ w. (v, w)));
  opens = opens;
})
  where
    piece_text : Codec (optional (text Wtf8 text_limit)) (encode_optional encode_text) (IfThere (TextFits Wtf8 text_limit))
    piece_text = optional_codec (short_text_lem Wtf8)

    opens : (ps : Pieces) → All (IfThere (TextFits Wtf8 text_limit)) ps →
        Opens length (flat_map (encode_optional encode_text)) (All (IfThere (TextFits Wtf8 text_limit))) [] piece ps
    opens [] v = inl refl
    opens (x ∷ ps) v = inr (x ∷◌, ps, encode_optional encode_text x, refl, refl, refl, v.1, λ t. rw (piece_text.complete x v.0 t))

-- the parts of a node that hold nodes, where d levels are left for these
module _ (source : List ℕ) (small : length source ≤ largest) (d : ℕ) (node : Decoder Node)
    (node_codec : Codec node encode_node (λ n. NodeFits source n d)) where
  pub nodes_codec : (k : ℕ) → Codec (nodes node k) encode_nodes (λ ns. (nodes_in ns ≡ k) × NodesFit source ns d)
  unfolding nodes encode_nodes NodesFit
  nodes_codec = many_codec nodes_in encode_nodes (λ ns. NodesFit source ns d) (record {
    empty = (refl, refl, tt);
    reads = reads_built _ _ _ (built_map (λ n l. more n l) node_codec) [] (λ n v ns. (refl, refl, λ w. (v, w)));
    opens = elim [
      | none ↦ λ v. inl refl
      | more n ns ↦ λ v. inr (more n, ns, encode_node n, refl, refl, refl, v.1, λ t. rw (node_codec.complete n v.0 t))
    ];
  })

  pub arguments_codec : (k : ℕ) → Codec (arguments node source k) encode_arguments (λ xs. (arguments_in xs ≡ k) × ArgumentsFit source xs d)
  unfolding arguments argument_item encode_arguments ArgumentsFit
  arguments_codec =
      let item = built_free flag_codec
      (λ dots. built_then (span_codec source small) (λ sp. built_end node_codec {B = Arguments → Arguments} (λ n. argument dots sp n))) in
      many_codec arguments_in encode_arguments (λ xs. ArgumentsFit source xs d) (record {
        empty = (refl, refl, tt);
        reads = reads_built _ _ _ item [] (λ p v xs. (refl, refl, λ w. (v, w)));
        opens = elim [
          | no_arguments ↦ λ v. inl refl
          | argument dots sp n xs ↦ λ v.
              inr (argument dots sp n, xs, encode_flag dots ++ (encode_span sp ++ encode_node n), refl, refl, refl, v.1, item.complete (dots, (sp, n)) v.0)
        ];
      })

  abbrev AddsProperty : List ℕ → Decoder (Properties → Properties) → Type 0
  AddsProperty = AddsItem properties_in encode_properties (λ ps. PropertiesFit source ps d)

  -- a key, and the value
  module _ {A : Type 0} {key : Decoder A} {encode : A → List ℕ} {Valid : A → Type 0} where
    with_key : (add : A → Node → Properties → Properties) → Codec key encode Valid
        → Built (key >>= λ k. node >>= λ v. return (add k v))
        (λ (p : A × Node). add p.0 p.1)
        (λ p. encode p.0 ++ encode_node p.1)
        (λ p. Valid p.0 × NodeFits source p.1 d)
    with_key add k = built_then k (λ a. built_end node_codec (add a))

  keyed : (kind : ℕ) → AddsProperty (2 ∷ kind ∷ []) (keyed_item node kind)
  unfolding keyed_item encode_properties PropertiesFit
  keyed = at_index (λ kind. AddsProperty (2 ∷ kind ∷ [])) (λ kind s f t e. absurd (refused e))
      (next (reads_built _ _ _ (with_key (λ k v ps. child_key k v ps) node_codec) (2 ∷ 0 ∷ []) (λ p v ps. (refl, refl, λ w. (v, w))))
      (next (reads_built _ _ _ (with_key (λ k v ps. string_key k v ps) (short_text_lem Wtf8)) (2 ∷ 1 ∷ []) (λ p v ps. (refl, refl, λ w. (v, w))))
      (next (reads_built _ _ _ (with_key (λ k v ps. name_key k v ps) (short_text_lem Utf8)) (2 ∷ 2 ∷ []) (λ p v ps. (refl, refl, λ w. (v, w))))
      done)))

  pub properties_codec : (k : ℕ) → Codec (properties node k) encode_properties (λ ps. (properties_in ps ≡ k) × PropertiesFit source ps d)
  unfolding properties property_item keyed_item byte encode_properties PropertiesFit
  properties_codec = many_codec properties_in encode_properties (λ ps. PropertiesFit source ps d) (record {
    empty = (refl, refl, tt);
    reads = reads_byte _ _ _ [] (at_index (λ kind. AddsProperty (kind ∷ [])) (λ kind s f t e. absurd (refused e))
        (next (reads_built _ _ _ (built_end node_codec {B = Properties → Properties} (λ n. spread n)) (0 ∷ []) (λ n v ps. (refl, refl, λ w. (v, w))))
        (next (reads_built _ _ _ (built_end node_codec {B = Properties → Properties} (λ n. other_property n)) (1 ∷ []) (λ n v ps. (refl, refl, λ w. (v, w))))
        (next (reads_byte _ _ _ (2 ∷ []) keyed)
        done))));
    opens = elim [
      | no_properties ↦ λ v. inl refl
      | spread n ps ↦ λ v. inr (spread n, ps, 0 ∷ encode_node n, refl, refl, refl, v.1, λ t. rw (node_codec.complete n v.0 t))
      | other_property n ps ↦ λ v. inr (other_property n, ps, 1 ∷ encode_node n, refl, refl, refl, v.1, λ t. rw (node_codec.complete n v.0 t))
      | child_key k x ps ↦ λ v.
          inr (
            child_key k x,
            ps,
            2 ∷ 0 ∷ (encode_node k ++ encode_node x),
            refl,
            refl,
            refl,
            v.1,
            (with_key (λ k v ps. child_key k v ps) node_codec).complete (k, x) v.0,
          )
      | string_key k x ps ↦ λ v.
          inr (
            string_key k x,
            ps,
            2 ∷ 1 ∷ (encode_text k ++ encode_node x),
            refl,
            refl,
            refl,
            v.1,
            (with_key (λ k v ps. string_key k v ps) (short_text_lem Wtf8)).complete (k, x) v.0,
          )
      | name_key k x ps ↦ λ v.
          inr (
            name_key k x,
            ps,
            2 ∷ 2 ∷ (encode_text k ++ encode_node x),
            refl,
            refl,
            refl,
            v.1,
            (with_key (λ k v ps. name_key k v ps) (short_text_lem Utf8)).complete (k, x) v.0,
          )
    ];
  })
