-- The nodes of each tag, from codecs of the nodes one level down.
use Rattle.laws.proofs.Prelude.{◌≡◌, refl, sym, ap, ◌∙◌, ◌⊎◌, inl, inr, ⊎_elim, Bool, true, List, ◌∷◌, ◌++◌, append_assoc, flat_map, Option, ℕ, suc, ◌+◌}
use Rattle.laws.proofs.Prelude.{◌≤◌, arith, ltb, length}
use Rattle.laws.{specs.Decoded.ok, specs.Decoded.Decoder, proofs.Decoding.refused}
use Rattle.laws.specs.Codec.{Codec, IfThere, All}
use Rattle.laws.proofs.Codecs.{Built, built_return, built_then, built_if, codec_of, each, built_end, built_free}
use Rattle.text.specs.declared.utf8.Encoding.TheVariants.{Utf8, Wtf8}
use Rattle.wire.{specs.Number.largest, specs.Number.encode_number, specs.Text.encode_text, specs.Optional.encode_optional, proofs.NumberCodec.number_codec}
use Rattle.wire.proofs.{Numbered.numbered_codec, TextCodec.flag_codec, OptionalCodec.optional_codec}
use Rattle.sheet.specs.{Limits.text_limit, Limits.property_limit, declared.fields.Span.Span, declared.names.ImportPhase.ImportPhase, Fields.encode_span}
use Rattle.sheet.specs.Tree.{Quoted, Pieces, Node, other, string, name, template, binary, object, import_call, call, import_decl, named_export, export_from}
use Rattle.sheet.specs.Tree.{export_all, import_type, import_equals, import_require, module_decl, Nodes, Arguments, Properties, Attributes, without}
use Rattle.sheet.specs.Tree.{with_object}
use Rattle.sheet.specs.Nodes.{call_rest, attributes, type_rest, other_fields, string_fields, name_fields, template_fields, binary_fields, object_fields}
use Rattle.sheet.specs.Nodes.{call_fields, import_fields, named_export_fields, export_all_fields, import_type_fields, import_equals_fields, module_fields}
use Rattle.sheet.specs.Nodes.{fields}
use Rattle.sheet.proofs.EnumNumbers.{phase_numbers}
use Rattle.sheet_codec.specs.Encode.{nodes_in, arguments_in, properties_in, encode_node, encode_nodes, encode_arguments, encode_properties, encode_attributes}
use Rattle.sheet_codec.specs.Limits.{TextFits, SpanFits, PlaceFits, NodeFits, NodesFit, ArgumentsFit, AttributesFit}
use Rattle.sheet_codec.proofs.Building.{built_below, limit_codec, built_counted, built_counted_end, done, next, at_index}
use Rattle.sheet_codec.proofs.Strings.{short_text_lem, string_text_lem, quoted_codec}
use Rattle.sheet_codec.proofs.Trees.{pieces_codec, nodes_codec, arguments_codec, properties_codec}

-- a decoder of the fields behind a tag and a span, and the nodes that it builds
pub record Tagged (source : List ℕ) (d t : ℕ) (sp : Span) (f : Decoder Node) {A : Type 0} (build : A → Node) : Type 0 where
  pub complete : (a : A) → NodeFits source (build a) (suc d) → (u : List ℕ)
      → (e : List ℕ) × (encode_node (build a) ≡ t ∷ (encode_span sp ++ e)) × SpanFits source sp × (f (e ++ u) ≡ ok (build a) u)
  pub sound : SpanFits source sp → (s : List ℕ) (n : Node) (u : List ℕ) → f s ≡ ok n u →
      (t ∷ (encode_span sp ++ s) ≡ encode_node n ++ u) × NodeFits source n (suc d)

module _ {source : List ℕ} {d : ℕ} {sp : Span} {f : Decoder Node} {A : Type 0} {build : A → Node} {encode : A → List ℕ} {Valid : A → Type 0} (t : ℕ) where
  tagged : Built f build encode Valid
      → ((a : A) → (encode_node (build a) ≡ t ∷ (encode_span sp ++ encode a))
      × (NodeFits source (build a) (suc d) → PlaceFits source (suc d) sp × Valid a)
      × (PlaceFits source (suc d) sp × Valid a → NodeFits source (build a) (suc d)))
      → Tagged source d t sp f build
  tagged k fields =
      record {
        complete = λ a v u.
            let (bytes, fit, fits) = fields a in
            let (place, w) = fit v in
            (encode a, bytes, place.span, k.complete a w u);
        sound = λ place s n u e.
            let (a, p, i, v) = k.sound s n u e in
            let (bytes, fit, fits) = fields a in
            rw (← p, bytes) (
              ap (λ x. t ∷ (encode_span sp ++ x)) i ∙
                  ap (t ∷◌) (sym (append_assoc (encode_span sp) (encode a) u)),
              fits (record { deep = omega arith; span = place }, v),
            );
      }

-- an Object that holds attributes
abbrev pub ObjectCodec : List ℕ → ℕ → Decoder Attributes → Type 0
ObjectCodec source d object' = Built object'
    (λ (p : Span × Properties). with_object p.0 p.1)
    (λ p. 5 ∷ (encode_span p.0 ++ (encode_number (properties_in p.1) ++ encode_properties p.1)))
    (λ p. AttributesFit source (with_object p.0 p.1) d)

module _ (source : List ℕ) (small : length source ≤ largest) (d : ℕ) (node : Decoder Node)
    (node_codec : Codec node encode_node (λ n. NodeFits source n d)) where
  module _ (object' : Decoder Attributes) (object_built : ObjectCodec source d object') where
    attributes_codec : Codec (attributes object') encode_attributes (λ a. AttributesFit source a d)
    unfolding attributes encode_attributes AttributesFit
    attributes_codec =
        codec_of (built_if flag_codec object_built (built_return without))
        (elim [ without ↦ λ v. (inr tt, refl, tt) | with_object sp ps ↦ λ v. (inl (sp, ps), refl, v) ])
        (elim [ inl p ↦ λ v. (refl, v) | inr u ↦ λ v. (refl, tt) ])

    module _ (sp : Span) where
      abbrev Fields : ℕ → Decoder Node → {A : Type 0} → (A → Node) → Type 0
      Fields t f build = Tagged source d t sp f build

      other_fields_lem : Fields 0 (other_fields source d node object' sp) (other sp)
      unfolding other_fields encode_node NodeFits
      other_fields_lem = tagged 0 (built_counted_end number_codec (nodes_codec source small d node node_codec) (other sp)) (λ a. (refl, λ v. v, λ v. v))

      string_fields_lem : Fields 1 (string_fields source d node object' sp) (string sp)
      unfolding string_fields encode_node NodeFits
      string_fields_lem = tagged 1 (built_end (string_text_lem source sp) (string sp))
          (λ a. (refl, λ v. (v.place, (v.quotation, v.text)), λ v. record { place = v.0; quotation = v.1.0; text = v.1.1 }))

      name_fields_lem : Fields 2 (name_fields source d node object' sp) (name sp)
      unfolding name_fields encode_node NodeFits
      name_fields_lem = tagged 2 (built_end (short_text_lem Utf8) (name sp)) (λ a. (refl, λ v. v, λ v. v))

      template_built : Built (template_fields source d node object' sp)
          (λ (p : Pieces × Nodes). template sp p.0 p.1)
          (λ p. encode_number (nodes_in p.1) ++ (flat_map (encode_optional encode_text) p.0 ++ encode_nodes p.1))
          (λ p. ((length p.0 ≡ nodes_in p.1 + 1) × All (IfThere (TextFits Wtf8 text_limit)) p.0) ×
          ((nodes_in p.1 ≤ largest) × NodesFit source p.1 d))
      unfolding template_fields
      template_built =
          let k = built_then number_codec
          (λ n. built_then (pieces_codec (n + 1)) (λ ps. built_end (nodes_codec source small d node node_codec n) (template sp ps))) in
          record {
            complete = λ p v t. k.complete (nodes_in p.1, p) (v.1.0, (v.0, (refl, v.1.1))) t;
            sound = λ s b t e.
                let ((n, p), q, i, (few, (pieces, (holes, fit)))) = k.sound s b t e in
                (p, q, rw holes i, (rw holes pieces, (rw holes few, fit)));
          }

      template_fields_lem : Fields 3 (template_fields source d node object' sp) (λ (p : Pieces × Nodes). template sp p.0 p.1)
      unfolding encode_node NodeFits
      template_fields_lem = tagged 3 template_built (λ a. (refl, λ v. v, λ v. v))

      binary_fields_lem : Fields 4 (binary_fields source d node object' sp) (λ (p : Bool × (Node × Node)). binary sp p.0 p.1.0 p.1.1)
      unfolding binary_fields encode_node NodeFits
      binary_fields_lem =
          tagged 4 (built_free flag_codec (λ plus. built_then node_codec (λ l. built_end node_codec (binary sp plus l)))) (λ a. (refl, λ v. v, λ v. v))

      object_fields_lem : Fields 5 (object_fields source d node object' sp) (object sp)
      unfolding object_fields encode_node NodeFits
      object_fields_lem =
          tagged 5 (built_counted_end (limit_codec property_limit (omega arith)) (properties_codec source small d node node_codec) (object sp))
          (λ a. (refl, λ v. v, λ v. v))

      call_rest_lem : Codec (call_rest node source)
          (λ p. (encode_number (arguments_in p.0) ++ encode_arguments p.0) ++ (encode_number (nodes_in p.1) ++ encode_nodes p.1))
          (λ p. ((arguments_in p.0 ≤ largest) × ArgumentsFit source p.0 d) × ((nodes_in p.1 ≤ largest) × NodesFit source p.1 d))
      unfolding call_rest
      call_rest_lem =
          codec_of
          (built_counted number_codec (arguments_codec source small d node node_codec)
          (λ xs. built_counted_end number_codec (nodes_codec source small d node node_codec) (λ ns. (xs, ns))))
          (λ p v. (p, refl, v))
          (λ p v. (refl, v))

      call_fields_lem : Fields 6 (call_fields source d node object' sp)
          (⊎_elim (λ (p : ImportPhase × (Arguments × Nodes)). import_call sp p.0 p.1.0 p.1.1)
          (λ (p : Node × (Arguments × Nodes)). call sp p.0 p.1.0 p.1.1))
      unfolding call_fields encode_node NodeFits
      call_fields_lem =
          tagged 6 (built_below phase_numbers (λ phase. built_end call_rest_lem (λ p. import_call sp phase p.0 p.1))
          (built_then node_codec (λ e. built_end call_rest_lem (λ p. call sp e p.0 p.1))))
          (elim [ inl p ↦ (refl, λ v. v, λ v. v) | inr p ↦ (refl, λ v. v, λ v. v) ])

      import_fields_lem : Fields 7 (import_fields source d node object' sp)
          (λ (p : Bool × (ImportPhase × (Bool × (Quoted × Attributes)))). import_decl sp p.0 p.1.0 p.1.1.0 p.1.1.1.0 p.1.1.1.1)
      unfolding import_fields encode_node NodeFits
      import_fields_lem =
          tagged 7
          (built_free flag_codec (λ type_only. built_free (numbered_codec phase_numbers)
          (λ phase. built_free flag_codec (λ side_effect. built_then (quoted_codec source small d) (λ x.
          built_end attributes_codec (import_decl sp type_only phase side_effect x))))))
          (λ a. (refl, λ v. v, λ v. v))

      export_fields : Fields 8 (named_export_fields source d node object' sp)
          (λ (p : Bool × ((Quoted × Attributes) ⊎ Unit {0})). ⊎_elim (λ (q : Quoted × Attributes). export_from sp p.0 q.0 q.1)
          (λ (u : Unit {0}). named_export sp p.0) p.1)
      unfolding named_export_fields encode_node NodeFits
      export_fields =
          tagged 8
          (built_free flag_codec (λ type_only. built_if flag_codec
          (built_then (quoted_codec source small d) (λ x. built_end attributes_codec (export_from sp type_only x)))
          (built_return (named_export sp type_only))))
          (each _ (λ type_only. elim [ inl q ↦ (refl, λ v. v, λ v. v) | inr u ↦ (refl, λ v. v, λ v. v) ]))

      export_all_fields_lem : Fields 9 (export_all_fields source d node object' sp) (λ (p : Bool × (Quoted × Attributes)). export_all sp p.0 p.1.0 p.1.1)
      unfolding export_all_fields encode_node NodeFits
      export_all_fields_lem =
          tagged 9 (built_free flag_codec (λ type_only. built_then (quoted_codec source small d) (λ x. built_end attributes_codec (export_all sp type_only x))))
          (λ a. (refl, λ v. v, λ v. v))

      type_rest_lem : (n : ℕ) → Codec (type_rest node object' n)
          (λ p. encode_nodes p.0 ++ encode_attributes p.1)
          (λ p. (nodes_in p.0 ≡ n) × (NodesFit source p.0 d × AttributesFit source p.1 d))
      unfolding type_rest
      type_rest_lem n =
          codec_of
          (built_then (nodes_codec source small d node node_codec n) (λ ns. built_end attributes_codec (λ a. (ns, a))))
          (λ p v. (p, refl, ((v.0, v.1.0), v.1.1)))
          (λ p v. (refl, (v.0.0, (v.0.1, v.1))))

      import_type_fields_lem : Fields 10 (import_type_fields source d node object' sp)
          (λ (p : Quoted × (Nodes × Attributes)). import_type sp p.0 p.1.0 p.1.1)
      unfolding import_type_fields encode_node NodeFits
      import_type_fields_lem =
          tagged 10
          (built_then (quoted_codec source small d) (λ x. built_counted_end number_codec type_rest_lem (λ p. import_type sp x p.0 p.1)))
          (λ a. (refl, λ v. v, λ v. v))

      import_equals_fields_lem : Fields 11 (import_equals_fields source d node object' sp)
          (⊎_elim (λ (p : Bool × (Bool × Quoted)). import_require sp p.0 p.1.0 p.1.1) (λ (u : Unit {0}). import_equals sp))
      unfolding import_equals_fields encode_node NodeFits
      import_equals_fields_lem =
          tagged 11
          (built_if flag_codec
          (built_free flag_codec (λ type_only. built_free flag_codec (λ export. built_end (quoted_codec source small d) (import_require sp type_only export))))
          (built_return (import_equals sp)))
          (elim [ inl p ↦ (refl, λ v. v, λ v. v) | inr u ↦ (refl, λ v. v, λ v. v) ])

      module_fields_lem : Fields 12 (module_fields source d node object' sp) (λ (p : Option Quoted × Nodes). module_decl sp p.0 p.1)
      unfolding module_fields encode_node NodeFits
      module_fields_lem =
          tagged 12 (built_then (optional_codec (quoted_codec source small d))
          (λ x. built_counted_end number_codec (nodes_codec source small d node node_codec) (module_decl sp x)))
          (λ a. (refl, λ v. v, λ v. v))

      pub fields_sound : SpanFits source sp → (t : ℕ) (s : List ℕ) (n : Node) (u : List ℕ) → fields source d node object' sp t s ≡ ok n u
          → (t ∷ (encode_span sp ++ s) ≡ encode_node n ++ u) × NodeFits source n (suc d)
      unfolding fields
      fields_sound place = at_index
          (λ t f. (s : List ℕ) (n : Node) (u : List ℕ) → f s ≡ ok n u → (t ∷ (encode_span sp ++ s) ≡ encode_node n ++ u) × NodeFits source n (suc d))
          (λ t s n u e. absurd (refused e))
          (next (other_fields_lem.sound place)
          (next (string_fields_lem.sound place)
          (next (name_fields_lem.sound place)
          (next (template_fields_lem.sound place)
          (next (binary_fields_lem.sound place)
          (next (object_fields_lem.sound place)
          (next (call_fields_lem.sound place)
          (next (import_fields_lem.sound place)
          (next (export_fields.sound place)
          (next (export_all_fields_lem.sound place)
          (next (import_type_fields_lem.sound place)
          (next (import_equals_fields_lem.sound place)
          (next (module_fields_lem.sound place)
          done)))))))))))))

    -- the bytes of a node: a tag, a span and fields that decode to it
    abbrev pub Written : Node → List ℕ → Type 0
    Written n u =
        (t : ℕ) × (sp : Span) × (e : List ℕ)
        × (ltb t 13 ≡ true) × (encode_node n ≡ t ∷ (encode_span sp ++ e)) × SpanFits source sp × (fields source d node object' sp t (e ++ u) ≡ ok n u)

    written : (t : ℕ) (sp : Span) → ltb t 13 ≡ true → {A : Type 0} {build : A → Node} → Tagged source d t sp (fields source d node object' sp t) build
        → (a : A) → NodeFits source (build a) (suc d) → (u : List ℕ) → Written (build a) u
    written t sp h k a v u = let (e, i, place, q) = k.complete a v u in (t, sp, e, h, i, place, q)

    pub fields_complete : (n : Node) → NodeFits source n (suc d) → (u : List ℕ) → Written n u
    unfolding fields
    fields_complete (other sp ns) = written 0 sp refl (other_fields_lem sp) ns
    fields_complete (string sp x) = written 1 sp refl (string_fields_lem sp) x
    fields_complete (name sp x) = written 2 sp refl (name_fields_lem sp) x
    fields_complete (template sp ps ns) = written 3 sp refl (template_fields_lem sp) (ps, ns)
    fields_complete (binary sp plus l r) = written 4 sp refl (binary_fields_lem sp) (plus, (l, r))
    fields_complete (object sp ps) = written 5 sp refl (object_fields_lem sp) ps
    fields_complete (import_call sp phase xs ns) = written 6 sp refl (call_fields_lem sp) (inl (phase, (xs, ns)))
    fields_complete (call sp e xs ns) = written 6 sp refl (call_fields_lem sp) (inr (e, (xs, ns)))
    fields_complete (import_decl sp type_only phase side_effect x a) = written 7 sp refl (import_fields_lem sp) (type_only, (phase, (side_effect, (x, a))))
    fields_complete (named_export sp type_only) = written 8 sp refl (export_fields sp) (type_only, inr tt)
    fields_complete (export_from sp type_only x a) = written 8 sp refl (export_fields sp) (type_only, inl (x, a))
    fields_complete (export_all sp type_only x a) = written 9 sp refl (export_all_fields_lem sp) (type_only, (x, a))
    fields_complete (import_type sp x ns a) = written 10 sp refl (import_type_fields_lem sp) (x, (ns, a))
    fields_complete (import_equals sp) = written 11 sp refl (import_equals_fields_lem sp) (inr tt)
    fields_complete (import_require sp type_only export x) = written 11 sp refl (import_equals_fields_lem sp) (inl (type_only, (export, x)))
    fields_complete (module_decl sp x ns) = written 12 sp refl (module_fields_lem sp) (x, ns)
