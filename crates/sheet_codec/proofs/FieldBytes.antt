-- The bytes of a sheet's fields, one after the other, are the sheet's.
use Rattle.std.specs.Prelude.{Some, None}
use Rattle.laws.proofs.Prelude.{◌≡◌, refl, List, [], ◌∷◌, append_assoc, append-nil, flat_map, Option, ℕ, length}
use Rattle.laws.proofs.Lists.{flat_map_append}
use Rattle.text.specs.declared.utf8.Encoding.{Encoding, TheVariants.Wtf8}
use Rattle.wire.specs.{Number.encode_number, Text.encode_text, Optional.encode_optional}
use Rattle.sheet.specs.{Limits.depth_limit, declared.comments.Comment.Comment, declared.groups.Group.Group, Sheet.Sheet}
use Rattle.sheet.specs.Comments.{encode_comment, encode_group, end_of}
use Rattle.sheet.specs.Tree.{Quoted, Pieces, Node, other, string, name, template, binary, object, import_call, call, import_decl, named_export, export_from}
use Rattle.sheet.specs.Tree.{export_all, import_type, import_equals, import_require, module_decl, Nodes, none, more, Arguments, no_arguments, argument}
use Rattle.sheet.specs.Tree.{Properties, no_properties, spread, other_property, child_key, string_key, name_key, Attributes, without, with_object}
use Rattle.sheet_codec.specs.Encode.{encode_quoted, encode_node, encode_nodes, encode_arguments, encode_properties, encode_attributes, encode_sheet}
use Rattle.sheet_codec.specs.{Limits.under, Breaks.bytes_of}
use Rattle.sheet_codec.specs.Field.{Count, text_length, start, position, Entry}
use Rattle.sheet_codec.specs.FieldsOf.{a_number, text_fields, optional_fields, short_text, chain_fields, comment_fields, group_fields, quoted_fields}
use Rattle.sheet_codec.specs.FieldsOf.{node_fields, nodes_fields, arguments_fields, properties_fields, attributes_fields, fields_of}

abbrev bytes : List Entry → List ℕ
bytes = flat_map bytes_of

text_bytes : (c : Count) (e : Encoding) (x : List ℕ) → bytes (text_fields c e x) ≡ encode_text x
unfolding flat_map encode_text
text_bytes c e x = simp append-nil

optional_bytes : {A : Type 0} (fields : A → List Entry) (encode : A → List ℕ) → ((a : A) → bytes (fields a) ≡ encode a) → (x : Option A)
    → bytes (optional_fields fields x) ≡ encode_optional encode x
unfolding flat_map encode_optional
optional_bytes fields encode same None = refl
optional_bytes fields encode same (Some a) = rw (same a)

chain_bytes : {A S : Type 0} (fields : S → A → List Entry) (leaves : A → S) (encode : A → List ℕ) → ((s : S) (a : A) → bytes (fields s a) ≡ encode a)
    → (s : S) (l : List A) → bytes (chain_fields fields leaves s l) ≡ flat_map encode l
unfolding flat_map
chain_bytes fields leaves encode same s [] = refl
chain_bytes fields leaves encode same s (a ∷ l) =
    rw (flat_map_append bytes_of (fields s a) (chain_fields fields leaves (leaves a) l), same s a, chain_bytes fields leaves encode same (leaves a) l)

pieces_bytes : (ps : Pieces) → bytes (flat_map (optional_fields (short_text Wtf8)) ps) ≡ flat_map (encode_optional encode_text) ps
unfolding flat_map
pieces_bytes [] = refl
pieces_bytes (p ∷ ps) =
    rw (
      flat_map_append bytes_of (optional_fields (short_text Wtf8) p) (flat_map (optional_fields (short_text Wtf8)) ps),
      optional_bytes (short_text Wtf8) encode_text (text_bytes text_length Wtf8) p,
      pieces_bytes ps,
    )

module _ (source : List ℕ) where
  comment_bytes : (last : ℕ) (c : Comment) → bytes (comment_fields source last c) ≡ encode_comment c
  unfolding flat_map
  comment_bytes last c = simp append-nil

  group_bytes : (total : ℕ) (last : Option Group) (g : Group) → bytes (group_fields source total last g) ≡ encode_group g
  unfolding flat_map
  group_bytes total last g = simp append-nil

  first_bytes : (first : Option ℕ) → bytes (optional_fields (λ p. a_number (position source start) p ∷ []) first) ≡ encode_optional encode_number first
  unfolding flat_map
  first_bytes = optional_bytes (λ p. a_number (position source start) p ∷ []) encode_number (λ n. append-nil (encode_number n))

  quoted_bytes : (levels : ℕ) (q : Quoted) → bytes (quoted_fields source levels q) ≡ encode_quoted q
  unfolding flat_map encode_text
  quoted_bytes levels q = simp (append_assoc, append-nil)

  mutual
    unfolding flat_map encode_text node_fields nodes_fields arguments_fields properties_fields attributes_fields encode_node encode_nodes encode_arguments
        encode_properties encode_attributes

    node_bytes : (n : Node) (levels : ℕ) → bytes (node_fields source n levels) ≡ encode_node n
    node_bytes (other sp ns) levels = simp (append_assoc, nodes_bytes ns (under levels))
    node_bytes (string sp x) levels = simp (append_assoc, append-nil)
    node_bytes (name sp x) levels = simp (append_assoc, append-nil)
    node_bytes (template sp ps ns) levels = simp (append_assoc, flat_map_append, pieces_bytes ps, nodes_bytes ns (under levels))
    node_bytes (binary sp plus l r) levels = simp (append_assoc, flat_map_append, node_bytes l (under levels), node_bytes r (under levels))
    node_bytes (object sp ps) levels = simp (append_assoc, properties_bytes ps (under levels))
    node_bytes (import_call sp phase xs ns) levels = simp (append_assoc, flat_map_append, arguments_bytes xs (under levels), nodes_bytes ns (under levels))
    node_bytes (call sp e xs ns) levels =
        simp (append_assoc, flat_map_append, node_bytes e (under levels), arguments_bytes xs (under levels), nodes_bytes ns (under levels))
    node_bytes (import_decl sp type_only phase side_effect x a) levels = simp (append_assoc, attributes_bytes a (under levels))
    node_bytes (named_export sp type_only) levels = simp append_assoc
    node_bytes (export_from sp type_only x a) levels = simp (append_assoc, attributes_bytes a (under levels))
    node_bytes (export_all sp type_only x a) levels = simp (append_assoc, attributes_bytes a (under levels))
    node_bytes (import_type sp x ns a) levels = simp (append_assoc, flat_map_append, nodes_bytes ns (under levels), attributes_bytes a (under levels))
    node_bytes (import_equals sp) levels = simp append_assoc
    node_bytes (import_require sp type_only export x) levels = simp (append_assoc, append-nil)
    node_bytes (module_decl sp x ns) levels =
        simp (
          append_assoc,
          flat_map_append,
          optional_bytes (quoted_fields source (under levels)) encode_quoted (quoted_bytes (under levels)) x,
          nodes_bytes ns (under levels),
        )

    nodes_bytes : (ns : Nodes) (levels : ℕ) → bytes (nodes_fields source ns levels) ≡ encode_nodes ns
    nodes_bytes none levels = refl
    nodes_bytes (more n ns) levels = simp (flat_map_append, node_bytes n levels, nodes_bytes ns levels)

    arguments_bytes : (xs : Arguments) (levels : ℕ) → bytes (arguments_fields source xs levels) ≡ encode_arguments xs
    arguments_bytes no_arguments levels = refl
    arguments_bytes (argument dots sp n xs) levels = simp (append_assoc, flat_map_append, node_bytes n levels, arguments_bytes xs levels)

    properties_bytes : (ps : Properties) (levels : ℕ) → bytes (properties_fields source ps levels) ≡ encode_properties ps
    properties_bytes no_properties levels = refl
    properties_bytes (spread n ps) levels = simp (flat_map_append, node_bytes n levels, properties_bytes ps levels)
    properties_bytes (other_property n ps) levels = simp (flat_map_append, node_bytes n levels, properties_bytes ps levels)
    properties_bytes (child_key k v ps) levels = simp (append_assoc, flat_map_append, node_bytes k levels, node_bytes v levels, properties_bytes ps levels)
    properties_bytes (string_key k v ps) levels = simp (append_assoc, flat_map_append, node_bytes v levels, properties_bytes ps levels)
    properties_bytes (name_key k v ps) levels = simp (append_assoc, flat_map_append, node_bytes v levels, properties_bytes ps levels)

    attributes_bytes : (a : Attributes) (levels : ℕ) → bytes (attributes_fields source a levels) ≡ encode_attributes a
    attributes_bytes without levels = refl
    attributes_bytes (with_object sp ps) levels = simp (append_assoc, properties_bytes ps (under levels))

pub fields_bytes : (t : Sheet) → bytes (fields_of t) ≡ encode_sheet t
unfolding fields_of encode_sheet encode_text flat_map
fields_bytes t =
    simp (
      append_assoc,
      flat_map_append,
      chain_bytes (comment_fields t.source) end_of encode_comment (comment_bytes t.source) 0 t.comments,
      chain_bytes (group_fields t.source (length t.comments)) (λ g. Some g) encode_group (group_bytes t.source (length t.comments))
          None t.groups,
      first_bytes t.source t.program.first,
      node_bytes t.source t.root depth_limit,
    )
