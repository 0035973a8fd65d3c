-- The codec of nodes with so many levels left, by induction on these.
use Rattle.laws.proofs.Prelude.{ap, ◌∙◌, List, ◌∷◌, ◌++◌, append_assoc, ℕ, zero, suc, ◌≤◌, ◌<◌, not-suc-le-zero, arith, eqb, ltb, length}
use Rattle.laws.{specs.Codec.Codec, proofs.Decoding.refused, proofs.Decoding.then_ok, proofs.Codecs.built_then}
use Rattle.wire.specs.Number.{largest}
use Rattle.sheet.specs.{Limits.property_limit, Fields.span, Fields.encode_span}
use Rattle.sheet.specs.Tree.{Node, other, string, name, template, binary, object, import_call, call, import_decl, named_export, export_from, export_all}
use Rattle.sheet.specs.Tree.{import_type, import_equals, import_require, module_decl, with_object}
use Rattle.sheet.specs.Nodes.{tag, node, attributes_object}
use Rattle.sheet_codec.specs.{Encode.encode_node, Limits.NodeFits, Limits.AttributesFit}
use Rattle.sheet_codec.proofs.{Building.limit_codec, Building.built_counted_end, Parts.span_codec, Strings.tag_codec, Strings.built_tag}
use Rattle.sheet_codec.proofs.Trees.{properties_codec}
use Rattle.sheet_codec.proofs.Tags.{ObjectCodec, fields_sound, fields_complete}

-- a node has a level
level : (source : List ℕ) (levels : ℕ) (n : Node) → NodeFits source n levels → 0 < levels
unfolding NodeFits
level source levels (other sp ns) v = v.0.deep
level source levels (string sp x) v = v.place.deep
level source levels (name sp x) v = v.0.deep
level source levels (template sp ps ns) v = v.0.deep
level source levels (binary sp plus l r) v = v.0.deep
level source levels (object sp ps) v = v.0.deep
level source levels (import_call sp phase xs ns) v = v.0.deep
level source levels (call sp e xs ns) v = v.0.deep
level source levels (import_decl sp type_only phase side_effect x a) v = v.0.deep
level source levels (named_export sp type_only) v = v.0.deep
level source levels (export_from sp type_only x a) v = v.0.deep
level source levels (export_all sp type_only x a) v = v.0.deep
level source levels (import_type sp x ns a) v = v.0.deep
level source levels (import_equals sp) v = v.0.deep
level source levels (import_require sp type_only export x) v = v.0.deep
level source levels (module_decl sp x ns) v = v.0.deep

module _ (source : List ℕ) (small : length source ≤ largest) where
  abbrev NodeCodec : ℕ → Type 0
  NodeCodec d = Codec (node source d) encode_node (λ n. NodeFits source n d)

  abbrev WithObject : ℕ → Type 0
  WithObject d = ObjectCodec source d (attributes_object source d)

  no_node : NodeCodec 0
  unfolding node
  no_node =
      record {
        complete = λ n v. absurd (not-suc-le-zero (level source 0 n v));
        sound = λ s n u e. let (t, w, x, e) = then_ok (tag (λ t. ltb t 13) 0 s) _ e in absurd (refused e);
      }

  no_object_lem : WithObject 0
  unfolding attributes_object AttributesFit
  no_object_lem =
      record {
        complete = λ p v. absurd (not-suc-le-zero v.0.deep);
        sound = λ s a u e. let (t, w, x, e) = then_ok (tag (eqb 5) 0 s) _ e in absurd (refused e);
      }

  module _ (d : ℕ) (down : NodeCodec d) where
    one_node : WithObject d → NodeCodec (suc d)
    unfolding node
    one_node held =
        record {
          complete = λ n v u.
              let (t, sp, e, h, i, place, q) = fields_complete source small d (node source d) down (attributes_object source d) held n v u in
              rw (
                i,
                (tag_codec (λ t. ltb t 13) (suc d)).complete t (h, omega arith) ((encode_span sp ++ e) ++ u),
                append_assoc (encode_span sp) e u,
                (span_codec source small).complete sp place (e ++ u),
              ) q;
          sound = λ s n u e.
              let (t, w, x, e) = then_ok (tag (λ t. ltb t 13) (suc d) s) _ e in
              let (sp, r, y, e) = then_ok (span source w) _ e in
              let (j, place) = (span_codec source small).sound w sp r y in
              let (k, fit) = fields_sound source small d (node source d) down (attributes_object source d) held sp place t r n u e in
              (((tag_codec (λ t. ltb t 13) (suc d)).sound s t w x).0 ∙ ap (t ∷◌) j ∙ k, fit);
        }

    one_object : WithObject (suc d)
    unfolding attributes_object AttributesFit
    one_object =
        let k = built_tag 5 (suc d) (built_then (span_codec source small) (λ sp.
        built_counted_end (limit_codec property_limit (omega arith)) (properties_codec source small d (node source d) down) (with_object sp))) in
        record {
          complete = λ p v. k.complete p (v.0.deep, (v.0.span, v.1));
          sound = λ s a u e.
              let (p, q, i, v) = k.sound s a u e in
              (p, q, i, (record { deep = v.0; span = v.1.0 }, v.1.1));
        }

  both : (d : ℕ) → NodeCodec d × WithObject d
  both zero = (no_node, no_object_lem)
  both (suc d) = let (down, held) = both d in (one_node d down held, one_object d down)

  pub node_codec : (d : ℕ) → Codec (node source d) encode_node (λ n. NodeFits source n d)
  node_codec d = (both d).0
