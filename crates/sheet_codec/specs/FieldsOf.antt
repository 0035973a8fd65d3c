-- The fields of a sheet in document 01's order, each with its bytes; together these are the sheet's (proofs/FieldBytes, law `fields_bytes`).
use Rattle.std.specs.Prelude.{Bool, true, false, ℕ, length, None, Option, Some}
use mathlib.Core.List.{List, [], ◌∷◌, ◌++◌, flat_map}
use Rattle.text.specs.declared.utf8.Encoding.{Encoding}
use Rattle.text.specs.declared.utf8.Encoding.TheVariants.{Utf8, Wtf8}
use Rattle.wire.specs.Fields.{encode_flag}
use Rattle.wire.specs.Number.{encode_number}
use Rattle.sheet.specs.Limits.{depth_limit}
use Rattle.sheet.specs.declared.fields.Span.{Span}
use Rattle.sheet.specs.declared.comments.Comment.{Comment}
use Rattle.sheet.specs.declared.groups.Group.{Group}
use Rattle.sheet.specs.Names.{media_number, kind_number, side_number, phase_number}
use Rattle.sheet.specs.Comments.{end_of}
use Rattle.sheet.specs.Program.{Program}
use Rattle.sheet.specs.Tree.{Quoted, Node, other, string, name, template, binary, object, import_call, call, import_decl, named_export, export_from}
use Rattle.sheet.specs.Tree.{export_all, import_type, import_equals, import_require, module_decl, Nodes, none, more, Arguments, no_arguments, argument}
use Rattle.sheet.specs.Tree.{Properties, no_properties, spread, other_property, child_key, string_key, name_key, Attributes, without, with_object}
use Rattle.sheet.specs.Sheet.{Sheet}
use Rattle.sheet_codec.specs.Encode.{nodes_in, arguments_in, properties_in}
use Rattle.sheet_codec.specs.Limits.{under}
use Rattle.sheet_codec.specs.Field.{Byte, media, kind, side, flag, phase, callee, property, key, Count, source_length, text_length, comments}
use Rattle.sheet_codec.specs.Field.{groups, properties, start, end, string_end, comment_start, comment_end, group_position, Number, limited, free}
use Rattle.sheet_codec.specs.Field.{position, group_count, Allowed, any_node, a_string, an_object, byte, tag, number, text, every_comment, Entry}

abbrev pub a_byte : Byte → ℕ → Entry
a_byte b x = record { field = byte b; bytes = x ∷ [] }

abbrev pub a_flag : Bool → Entry
a_flag b = record { field = byte flag; bytes = encode_flag b }

abbrev pub a_number : Number → ℕ → Entry
a_number f n = record { field = number f; bytes = encode_number n }

-- a tag, where the place allows such a node and so many levels are left
abbrev pub a_tag : Allowed → ℕ → ℕ → Entry
a_tag place levels t = record { field = tag place levels; bytes = t ∷ [] }

-- a text: a length and bytes
abbrev pub text_fields : Count → Encoding → List ℕ → List Entry
text_fields c e x = a_number (limited c) (length x) ∷ record { field = text e (length x); bytes = x } ∷ []

-- a flag, and what follows it if it is 1
abbrev pub optional_fields : {A : Type 0} → (A → List Entry) → Option A → List Entry
optional_fields fields None = a_flag false ∷ []
optional_fields fields (Some a) = a_flag true ∷ fields a

abbrev pub short_text : Encoding → List ℕ → List Entry
short_text = text_fields text_length

-- items one after the other, each judged by what the one before leaves
abbrev pub chain_fields : {A S : Type 0} → (S → A → List Entry) → (A → S) → S → List A → List Entry
chain_fields fields leaves s [] = []
chain_fields fields leaves s (a ∷ l) = fields s a ++ chain_fields fields leaves (leaves a) l

-- over a source
module _ (source : List ℕ) where
  -- start, end
  abbrev pub span_fields : Span → List Entry
  span_fields sp = a_number (position source start) sp.start ∷ a_number (position source (end sp.start)) sp.end ∷ []

  -- kind byte, start, end, behind a comment that ends at `last`
  abbrev pub comment_fields : ℕ → Comment → List Entry
  comment_fields last c =
      a_byte kind (kind_number c.kind)
      ∷ a_number (position source (comment_start last)) c.span.start
      ∷ a_number (position source (comment_end c.kind c.span.start)) c.span.end
      ∷ []

  -- side byte, position, index of its first comment, count, behind another group if there is one
  abbrev pub group_fields : ℕ → Option Group → Group → List Entry
  group_fields total last g =
      a_byte side (side_number g.side)
      ∷ a_number (position source (group_position last g.side)) g.position
      ∷ a_number free g.first
      ∷ a_number (group_count total g.first) g.count
      ∷ []

  -- script flag, start, end, shebang flag, first-item flag, then that item's start if the flag is 1
  abbrev pub program_fields : Program → List Entry
  program_fields p =
      a_flag p.script ∷ (span_fields p.span ++ (a_flag p.shebang ∷ optional_fields (λ first. a_number (position source start) first ∷ []) p.first))

  -- a String behind its tag: start, end, text
  abbrev pub string_fields : Span → List ℕ → List Entry
  string_fields sp x = a_number (position source start) sp.start ∷ a_number (position source (string_end sp.start)) sp.end ∷ short_text Wtf8 x

  -- one that another node holds, where so many levels are left
  abbrev pub quoted_fields : ℕ → Quoted → List Entry
  quoted_fields levels q = a_tag a_string levels 1 ∷ string_fields q.span q.text

  -- a node: a tag byte, start, end, then its fields
  unfoldable mutual
    pub node_fields : Node → ℕ → List Entry
    node_fields (other sp ns) levels = a_tag any_node levels 0 ∷ (span_fields sp ++ (a_number free (nodes_in ns) ∷ nodes_fields ns (under levels)))
    node_fields (string sp x) levels = a_tag any_node levels 1 ∷ string_fields sp x
    node_fields (name sp x) levels = a_tag any_node levels 2 ∷ (span_fields sp ++ short_text Utf8 x)
    node_fields (template sp ps ns) levels =
        a_tag any_node levels 3
        ∷ (span_fields sp ++ (a_number free (nodes_in ns) ∷ (flat_map (optional_fields (short_text Wtf8)) ps ++ nodes_fields ns (under levels))))
    node_fields (binary sp plus l r) levels =
        a_tag any_node levels 4 ∷ (span_fields sp ++ (a_flag plus ∷ (node_fields l (under levels) ++ node_fields r (under levels))))
    node_fields (object sp ps) levels = a_tag any_node levels 5 ∷ (span_fields sp ++
        (a_number (limited properties) (properties_in ps) ∷ properties_fields ps (under levels)))
    node_fields (import_call sp phase' xs ns) levels =
        a_tag any_node levels 6
        ∷ (span_fields sp
        ++ (a_byte callee (phase_number phase')
        ∷ (a_number free (arguments_in xs) ∷ (arguments_fields xs (under levels) ++ (a_number free (nodes_in ns) ∷ nodes_fields ns (under levels))))))
    node_fields (call sp e xs ns) levels =
        a_tag any_node levels 6
        ∷ (span_fields sp
        ++ (a_byte callee 3
        ∷ (node_fields e (under levels)
        ++ (a_number free (arguments_in xs) ∷ (arguments_fields xs (under levels) ++ (a_number free (nodes_in ns) ∷ nodes_fields ns (under levels)))))))
    node_fields (import_decl sp type_only phase' side_effect x a) levels =
        a_tag any_node levels 7
        ∷ (span_fields sp
        ++ (a_flag type_only ∷ a_byte phase (phase_number phase') ∷ a_flag side_effect
        ∷ (quoted_fields (under levels) x ++ attributes_fields a (under levels))))
    node_fields (named_export sp type_only) levels = a_tag any_node levels 8 ∷ (span_fields sp ++ (a_flag type_only ∷ a_flag false ∷ []))
    node_fields (export_from sp type_only x a) levels =
        a_tag any_node levels 8 ∷ (span_fields sp ++ (a_flag type_only ∷ a_flag true ∷ (quoted_fields (under levels) x ++ attributes_fields a (under levels))))
    node_fields (export_all sp type_only x a) levels =
        a_tag any_node levels 9 ∷ (span_fields sp ++ (a_flag type_only ∷ (quoted_fields (under levels) x ++ attributes_fields a (under levels))))
    node_fields (import_type sp x ns a) levels =
        a_tag any_node levels 10
        ∷ (span_fields sp
        ++ (quoted_fields (under levels) x
        ++ (a_number free (nodes_in ns) ∷ (nodes_fields ns (under levels) ++ attributes_fields a (under levels)))))
    node_fields (import_equals sp) levels = a_tag any_node levels 11 ∷ (span_fields sp ++ (a_flag false ∷ []))
    node_fields (import_require sp type_only export x) levels =
        a_tag any_node levels 11 ∷ (span_fields sp ++ (a_flag true ∷ a_flag type_only ∷ a_flag export ∷ quoted_fields (under levels) x))
    node_fields (module_decl sp x ns) levels =
        a_tag any_node levels 12
        ∷ (span_fields sp ++ (optional_fields (quoted_fields (under levels)) x ++ (a_number free (nodes_in ns) ∷ nodes_fields ns (under levels))))

    pub nodes_fields : Nodes → ℕ → List Entry
    nodes_fields none levels = []
    nodes_fields (more n ns) levels = node_fields n levels ++ nodes_fields ns levels

    -- flag spread, start, end, node
    pub arguments_fields : Arguments → ℕ → List Entry
    arguments_fields no_arguments levels = []
    arguments_fields (argument dots sp n xs) levels = (a_flag dots ∷ (span_fields sp ++ node_fields n levels)) ++ arguments_fields xs levels

    -- byte 0 spread or 1 other, with a child; or 2, key byte (0 child, 1 string text, 2 name text), value node
    pub properties_fields : Properties → ℕ → List Entry
    properties_fields no_properties levels = []
    properties_fields (spread n ps) levels = (a_byte property 0 ∷ node_fields n levels) ++ properties_fields ps levels
    properties_fields (other_property n ps) levels = (a_byte property 1 ∷ node_fields n levels) ++ properties_fields ps levels
    properties_fields (child_key k v ps) levels =
        (a_byte property 2 ∷ a_byte key 0 ∷ (node_fields k levels ++ node_fields v levels)) ++ properties_fields ps levels
    properties_fields (string_key k v ps) levels =
        (a_byte property 2 ∷ a_byte key 1 ∷ (short_text Wtf8 k ++ node_fields v levels)) ++ properties_fields ps levels
    properties_fields (name_key k v ps) levels = (a_byte property 2 ∷ a_byte key 2 ∷ (short_text Utf8 k ++ node_fields v levels)) ++ properties_fields ps levels

    -- flag, Object if 1
    pub attributes_fields : Attributes → ℕ → List Entry
    attributes_fields without levels = a_flag false ∷ []
    attributes_fields (with_object sp ps) levels =
        a_flag true ∷ a_tag an_object levels 5 ∷ (span_fields sp ++ (a_number (limited properties) (properties_in ps) ∷ properties_fields ps (under levels)))

-- media byte, source text, comment count and comments, group count and groups, program, root; nodes nest at most 64 deep, the root is 1
unfoldable pub fields_of : Sheet → List Entry
fields_of t =
    a_byte media (media_number t.media)
    ∷ (text_fields source_length Utf8 t.source
    ++ (a_number (limited comments) (length t.comments) ∷ (chain_fields (comment_fields t.source) end_of 0 t.comments
    ++ (a_number (limited groups) (length t.groups) ∷
    (chain_fields (group_fields t.source (length t.comments)) (λ g. Some g) None t.groups
    ++ (record { field = every_comment t.groups (length t.comments); bytes = [] }
    ∷ (program_fields t.source t.program
    ++ node_fields t.source t.root depth_limit)))))))
