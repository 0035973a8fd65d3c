-- The fields of nodes.
use Rattle.laws.proofs.Prelude.{◌≡◌, refl, ap, ⊎_elim, Bool, true, false, cond, List, [], ◌∷◌, ◌++◌, flat_map, ℕ, zero, suc, ◌+◌, ◌≤◌, ◌<◌, zero-add}
use Rattle.laws.proofs.Prelude.{add-zero, not-suc-le-zero, le_of_suc-le-suc, arith, eqb, ltb, length, get_or, get_or-eq_default, ltb-true, ltb-false}
use Rattle.laws.specs.Decoded.{Decoder, ◌>>=◌, ◌>>◌, return, refuse, require}
use Rattle.laws.proofs.Decoding.{refused, then_ok, then_refused}
use Rattle.text.specs.declared.utf8.Encoding.TheVariants.{Utf8, Wtf8}
use Rattle.wire.specs.Fields.{byte, below, value_of, flag}
use Rattle.sheet.{specs.declared.fields.Span.Span, specs.Names.import_phases, specs.Fields.span, proofs.EnumNumbers.phase_numbers}
use Rattle.sheet.specs.Tree.{Node, other, string, name, template, binary, object, import_call, call, import_decl, named_export, export_from, export_all}
use Rattle.sheet.specs.Tree.{import_type, import_equals, import_require, module_decl, none, more, argument, Properties, no_properties, spread, other_property}
use Rattle.sheet.specs.Tree.{child_key, string_key, name_key, Attributes, without, with_object}
use Rattle.sheet.specs.Nodes.{many, tag, quoted, piece, nodes, argument_item, arguments, keyed_item, property_item, properties, call_rest, attributes}
use Rattle.sheet.specs.Nodes.{type_rest, other_fields, string_fields, name_fields, template_fields, binary_fields, object_fields, call_fields, import_fields}
use Rattle.sheet.specs.Nodes.{named_export_fields, export_all_fields, import_type_fields, import_equals_fields, module_fields, fields, node, attributes_object}
use Rattle.sheet_codec.specs.Encode.{nodes_in, arguments_in, properties_in}
use Rattle.sheet_codec.specs.Field as field
use Rattle.sheet_codec.specs.Field.{Byte, values, text_length, any_node, an_object, Entry}
use Rattle.sheet_codec.specs.FieldsOf.{a_byte, a_flag, a_number, a_tag, short_text, optional_fields, span_fields, quoted_fields, node_fields, nodes_fields}
use Rattle.sheet_codec.specs.FieldsOf.{arguments_fields, properties_fields, attributes_fields}
use Rattle.sheet_codec.proofs.Building.{Each, done, next}
use Rattle.sheet_codec.proofs.Fields.{Judges, FieldsOf, Any, ends, same, has, map, then, last, meets_here}
use Rattle.sheet_codec.proofs.Leaves.{byte_field, numbered_field, flag_field, no_level, any_tag_refuses, object_tag_refuses, any_tag, string_tag}
use Rattle.sheet_codec.proofs.Leaves.{object_tag}
use Rattle.sheet_codec.proofs.Numbers.{free_field, count_field}
use Rattle.sheet_codec.proofs.Sequences.{text_fields_lem, optional_fields_lem, span_fields_lem, string_fields_lem, Adds, many_fields}

-- one of a list of decoders, by an index below its length
module _ {A : Type 0} (P : ℕ → Decoder A → Type 0) (d : Decoder A) where
  from_index : {k : ℕ} {ds : List (Decoder A)} → Each P k ds → (i : ℕ) → i < length ds → P (i + k) (get_or ds i d)
  from_index done i l = absurd (not-suc-le-zero l)
  from_index {k} (next p e) zero l = rw (zero-add k) p
  from_index {k} (next p e) (suc i) l = let same : suc i + k ≡ i + suc k = omega arith in rw same (from_index e i (le_of_suc-le-suc l))

  at_index : {ds : List (Decoder A)} → Each P 0 ds → (i : ℕ) → i < length ds → P i (get_or ds i d)
  at_index e i l = rw (add-zero i) at (from_index e i l)

-- a byte that chooses one of a list of decoders, where it has as many values
module _ {B : Type 0} (ds : List (Decoder B)) (n : ℕ) (long : length ds ≡ n) where
  by_byte : (s : List ℕ) → (byte >>= λ i. get_or ds i (refuse 3)) s ≡ (below n >>= λ i. get_or ds i (refuse 3)) s
  unfolding byte below
  by_byte [] = refl
  by_byte (x ∷ u) = go (ltb x n) refl
    where
      go : (b : Bool) → ltb x n ≡ b → get_or ds x (refuse 3) u ≡ ((require b 3 >> return x) >>= λ i. get_or ds i (refuse 3)) u
      go true i = refl
      go false i = let past : length ds ≤ x = omega (arith, ltb-false x n i) in ap (λ d. d u) (get_or-eq_default ds (refuse 3) past)

chosen : {B : Type 0} {Has : B → List Entry → Type 0} {ds : List (Decoder B)} (b : Byte) → Each (λ i d. Judges d (λ x l. Has x (a_byte b i ∷ l))) 0 ds →
    length ds ≡ values b
    → Judges (byte >>= λ i. get_or ds i (refuse 3)) Has
chosen {Has = Has} {ds = ds} b each long =
    same (by_byte ds (values b) long) (then (byte_field b) (λ i l. at_index (λ i d. Judges d (λ x m. Has x (a_byte b i ∷ m))) (refuse 3) each i (rw long l)))

module _ (source : List ℕ) where
  quoted_fields_lem : (levels : ℕ) → FieldsOf (quoted source levels) Any (quoted_fields source levels)
  unfolding quoted
  quoted_fields_lem levels = then (string_tag levels) (λ t e. string_fields_lem source (λ sp x. record { span = sp; text = x }) (λ sp x. (tt, rw e)))

  pieces_fields : (n : ℕ) → FieldsOf (many [] piece n) (λ ps. length ps ≡ n) (flat_map (optional_fields (short_text Wtf8)))
  unfolding piece flat_map
  pieces_fields =
      many_fields length (flat_map (optional_fields (short_text Wtf8))) (refl, refl)
      (last (λ x. x ∷◌) (optional_fields_lem (text_fields_lem text_length Wtf8)) (λ x a ps. (refl, refl)))

  -- the parts of a node that hold nodes, where d levels are left for these
  module _ (d : ℕ) {inner : Decoder Node} (k : FieldsOf inner Any (λ n. node_fields source n d)) where
    nodes_fields_lem : (n : ℕ) → FieldsOf (nodes inner n) (λ ns. nodes_in ns ≡ n) (λ ns. nodes_fields source ns d)
    unfolding nodes nodes_fields
    nodes_fields_lem = many_fields nodes_in (λ ns. nodes_fields source ns d) (refl, refl)
        (map k (λ n l. more n l) (λ n l h ns. (refl, ap (◌++ nodes_fields source ns d) h.1)))

    arguments_fields_lem : (n : ℕ) → FieldsOf (arguments inner source n) (λ xs. arguments_in xs ≡ n) (λ xs. arguments_fields source xs d)
    unfolding arguments argument_item arguments_fields
    arguments_fields_lem =
        many_fields arguments_in (λ xs. arguments_fields source xs d) (refl, refl)
        (then flag_field (λ dots a. then (span_fields_lem source) (λ sp b. last (λ n. argument dots sp n) k (λ n c xs. (refl, refl)))))

    -- a property whose first fields are these
    abbrev Property : List Entry → Decoder (Properties → Properties) → Type 0
    Property front item = Judges item (λ add l. Adds properties_in (λ ps. properties_fields source ps d) add (front ++ l))

    keyed : Property (a_byte field.property 2 ∷ []) (byte >>= keyed_item inner)
    unfolding keyed_item properties_fields
    keyed =
        chosen field.key
        (next (then k (λ x a. last (λ v. child_key x v) k (λ v b ps. (refl, refl))))
        (next (then (text_fields_lem text_length Wtf8) (λ x a. last (λ v. string_key x v) k (λ v b ps. (refl, refl))))
        (next (then (text_fields_lem text_length Utf8) (λ x a. last (λ v. name_key x v) k (λ v b ps. (refl, refl))))
        done)))
        refl

    property : Property [] (property_item inner)
    unfolding property_item properties_fields
    property =
        chosen field.property
        (next (last (λ n. spread n) k (λ n a ps. (refl, refl)))
        (next (last (λ n. other_property n) k (λ n a ps. (refl, refl)))
        (next keyed
        done)))
        refl

    properties_fields_lem : (n : ℕ) → FieldsOf (properties inner n) (λ ps. properties_in ps ≡ n) (λ ps. properties_fields source ps d)
    unfolding properties properties_fields
    properties_fields_lem = many_fields properties_in (λ ps. properties_fields source ps d) (refl, refl) property

    -- what follows a tag and a span
    module _ {inner' : Decoder Attributes} (k' : Judges inner' (λ a l. a_flag true ∷ l ≡ attributes_fields source a d)) (sp : Span) where
      attributes_fields_lem : FieldsOf (attributes inner') Any (λ a. attributes_fields source a d)
      unfolding attributes attributes_fields
      attributes_fields_lem = then flag_field (λ there u. by there)
        where
          by : (b : Bool) → Judges (cond b inner' (return without)) (λ a l. Unit {0} × (a_flag b ∷ l ≡ attributes_fields source a d))
          by true = has k' (λ a l h. (tt, h))
          by false = ends without (tt, refl)

      type_fields : (n : ℕ) →
          FieldsOf (type_rest inner inner' n) (λ p. nodes_in p.0 ≡ n) (λ p. nodes_fields source p.0 d ++ attributes_fields source p.1 d)
      unfolding type_rest
      type_fields n = then (nodes_fields_lem n) (λ ns e. last (λ a. (ns, a)) attributes_fields_lem (λ a c. (e, refl)))

      -- the fields of a node behind its tag, its span and others
      abbrev Behind : ℕ → List Entry → Decoder Node → Type 0
      Behind t front f = Judges f (λ n l. Unit {0} × (a_tag any_node (suc d) t ∷ (span_fields source sp ++ (front ++ l)) ≡ node_fields source n (suc d)))

      rest_fields : FieldsOf (call_rest inner source) Any
          (λ p. a_number field.free
          (arguments_in p.0) ∷ (arguments_fields source p.0 d ++ (a_number field.free (nodes_in p.1) ∷ nodes_fields source p.1 d)))
      unfolding call_rest
      rest_fields =
          then free_field (λ n a. then (arguments_fields_lem n)
          (λ xs e. then free_field (λ m b. last (λ ns. (xs, ns)) (nodes_fields_lem m) (λ ns f. (tt, rw (e, f))))))

      call_fields_lem : Behind 6 [] (call_fields source d inner inner' sp)
      unfolding call_fields node_fields
      call_fields_lem = then (byte_field field.callee) (λ callee l. by callee l (ltb callee 3) refl)
        where
          by : (callee : ℕ) → callee < 4 → (b : Bool) → ltb callee 3 ≡ b
              → Behind 6 (a_byte field.callee callee ∷ []) (cond b
              (call_rest inner source >>= λ p. return (import_call sp (value_of import_phases callee) p.0 p.1))
              (inner >>= λ e. call_rest inner source >>= λ p. return (call sp e p.0 p.1)))
          by callee l true i =
              last (λ p. import_call sp (value_of import_phases callee) p.0 p.1) rest_fields
              (λ p a. (tt, rw (phase_numbers.forth callee (ltb-true callee 3 i))))
          by callee l false i =
              let three : callee ≡ 3 = omega (arith, ltb-false callee 3 i) in
              then k (λ e a. last (λ p. call sp e p.0 p.1) rest_fields (λ p b. (tt, rw three)))

      export_fields : Behind 8 [] (named_export_fields source d inner inner' sp)
      unfolding named_export_fields node_fields
      export_fields = then flag_field (λ type_only a. then flag_field (λ there b. by type_only there))
        where
          by : (type_only b : Bool)
              → Behind 8 (a_flag type_only ∷ a_flag b ∷ [])
              (cond b (quoted source d >>= λ x. attributes inner' >>= λ a. return (export_from sp type_only x a)) (return (named_export sp type_only)))
          by type_only true = then (quoted_fields_lem d) (λ x a. last (λ a. export_from sp type_only x a) attributes_fields_lem (λ a b. (tt, refl)))
          by type_only false = ends (named_export sp type_only) (tt, refl)

      equals_fields : Behind 11 [] (import_equals_fields source d inner inner' sp)
      unfolding import_equals_fields node_fields
      equals_fields = then flag_field (λ external a. by external)
        where
          by : (b : Bool)
              → Behind 11 (a_flag b ∷ [])
              (cond b (flag >>= λ type_only. flag >>= λ export. quoted source d >>= λ x. return (import_require sp type_only export x))
              (return (import_equals sp)))
          by true = then flag_field
              (λ type_only a. then flag_field (λ export b. last (λ x. import_require sp type_only export x) (quoted_fields_lem d) (λ x c. (tt, refl))))
          by false = ends (import_equals sp) (tt, refl)

      -- where it is no String
      tag_fields : (t : ℕ) → t < 13 → (t ≡ 1 → ⊥) → Behind t [] (fields source d inner inner' sp t)
      unfolding fields other_fields name_fields template_fields binary_fields object_fields import_fields export_all_fields import_type_fields module_fields
          node_fields
      tag_fields zero l h = then free_field (λ n a. last (λ ns. other sp ns) (nodes_fields_lem n) (λ ns e. (tt, rw e)))
      tag_fields (suc zero) l h = absurd (h refl)
      tag_fields (suc (suc t)) l h =
          let back : t + 2 ≡ suc (suc t) = omega arith in
          rw back at (from_index (λ t. Behind t []) (refuse 3) {k = 2}
          (next (last (λ x. name sp x) (text_fields_lem text_length Utf8) (λ x a. (tt, refl)))
          (next (then free_field (λ n a. then (pieces_fields (n + 1)) (λ ps b. last (λ ns. template sp ps ns) (nodes_fields_lem n) (λ ns e. (tt, rw e)))))
          (next (then flag_field (λ plus a. then k (λ l b. last (λ r. binary sp plus l r) k (λ r c. (tt, refl)))))
          (next (then (count_field field.properties) (λ n a. last (λ ps. object sp ps) (properties_fields_lem n) (λ ps e. (tt, rw e))))
          (next call_fields_lem
          (next (then flag_field
          (λ type_only a. then (numbered_field field.phase phase_numbers refl) (λ phase b. then flag_field (λ side_effect c. then (quoted_fields_lem d) (λ x e.
          last (λ a. import_decl sp type_only phase side_effect x a) attributes_fields_lem (λ a f. (tt, refl)))))))
          (next export_fields
          (next (then flag_field
          (λ type_only a. then (quoted_fields_lem d) (λ x b. last (λ a. export_all sp type_only x a) attributes_fields_lem (λ a c. (tt, refl)))))
          (next (then (quoted_fields_lem d) (λ x a. then free_field (λ n b. last (λ p. import_type sp x p.0 p.1) (type_fields n) (λ p e. (tt, rw e)))))
          (next equals_fields
          (next
          (then (optional_fields_lem (quoted_fields_lem d))
          (λ x a. then free_field (λ n b. last (λ ns. module_decl sp x ns) (nodes_fields_lem n) (λ ns e. (tt, rw e)))))
          done)))))))))))
          t (omega arith))

    -- what follows a tag
    any_fields : {inner' : Decoder Attributes} → Judges inner' (λ a l. a_flag true ∷ l ≡ attributes_fields source a d) → (t : ℕ) → t < 13
        → Judges (span source >>= λ sp. fields source d inner inner' sp t) (λ n l. Unit {0} × (a_tag any_node (suc d) t ∷ l ≡ node_fields source n (suc d)))
    unfolding fields string_fields node_fields
    any_fields k' zero l = then (span_fields_lem source) (λ sp a. tag_fields k' sp zero l (λ e. omega arith))
    any_fields k' (suc zero) l = string_fields_lem source string (λ sp x. (tt, refl))
    any_fields k' (suc (suc t)) l = then (span_fields_lem source) (λ sp a. tag_fields k' sp (suc (suc t)) l (λ e. omega arith))

  -- where no level is left: refused at the tag
  nowhere : Span
  nowhere = record { start = 0; end = 0 }

  no_node : FieldsOf (node source 0) Any (λ n. node_fields source n 0)
  unfolding node node_fields
  no_node = record {
    some = (other nowhere none, _, (tt, refl));
    passes = λ s n u e. let (t, v, x, e) = then_ok (tag (λ t. ltb t 13) 0 s) _ e in absurd (refused e);
    refuses = λ s r e. ⊎_elim
        (λ x. (other nowhere none, _, (tt, refl), meets_here (a_tag any_node 0 0) _ (any_tag_refuses 0 s r x)))
        (λ (t, u, x, y). absurd (no_level (λ t. ltb t 13) s t u x))
        (then_refused (tag (λ t. ltb t 13) 0 s) (λ t. refuse 4) e);
  }

  no_object_lem : Judges (attributes_object source 0) (λ a l. a_flag true ∷ l ≡ attributes_fields source a 0)
  unfolding attributes_object attributes_fields
  no_object_lem = record {
    some = (with_object nowhere no_properties, _, refl);
    passes = λ s a u e. let (t, v, x, e) = then_ok (tag (eqb 5) 0 s) _ e in absurd (refused e);
    refuses = λ s r e. ⊎_elim
        (λ x. (with_object nowhere no_properties, _, refl, meets_here (a_tag an_object 0 5) _ (object_tag_refuses 0 s r x)))
        (λ (t, u, x, y). absurd (no_level (eqb 5) s t u x))
        (then_refused (tag (eqb 5) 0 s) (λ t. refuse 4) e);
  }

  mutual
    unfolding node attributes_object attributes_fields

    pub node_fields_lem : (levels : ℕ) → FieldsOf (node source levels) Any (λ n. node_fields source n levels)
    node_fields_lem zero = no_node
    node_fields_lem (suc d) = then (any_tag (suc d)) (λ t l. any_fields d (node_fields_lem d) (object_fields_lem d) t l)

    object_fields_lem : (levels : ℕ) → Judges (attributes_object source levels) (λ a l. a_flag true ∷ l ≡ attributes_fields source a levels)
    object_fields_lem zero = no_object_lem
    object_fields_lem (suc d) =
        then (object_tag (suc d)) (λ t e. then (span_fields_lem source) (λ sp a. then (count_field field.properties) (λ n b.
        last (λ ps. with_object sp ps) (properties_fields_lem d (node_fields_lem d) n) (λ ps f. rw (e, f)))))
