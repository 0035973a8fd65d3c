-- Document 01's sheet: its bytes, field by field; the decoder undoes it (proofs/Sheets, laws `encoded` and `accepted`).
use Rattle.std.specs.Prelude.{true, false, ℕ, zero, suc, length}
use mathlib.Core.List.{List, [], ◌∷◌, ◌++◌, flat_map}
use Rattle.wire.specs.Fields.{encode_flag}
use Rattle.wire.specs.Number.{encode_number}
use Rattle.wire.specs.Text.{encode_text}
use Rattle.wire.specs.Optional.{encode_optional}
use Rattle.sheet.specs.Names.{media_number, phase_number}
use Rattle.sheet.specs.Fields.{encode_span}
use Rattle.sheet.specs.Comments.{encode_comment, encode_group}
use Rattle.sheet.specs.Program.{Program}
use Rattle.sheet.specs.Tree.{Quoted, Node, other, string, name, template, binary, object, import_call, call, import_decl, named_export, export_from}
use Rattle.sheet.specs.Tree.{export_all, import_type, import_equals, import_require, module_decl, Nodes, none, more, Arguments, no_arguments, argument}
use Rattle.sheet.specs.Tree.{Properties, no_properties, spread, other_property, child_key, string_key, name_key, Attributes, without, with_object}
use Rattle.sheet.specs.Sheet.{Sheet}

-- script flag, start, end, shebang flag, first-item flag, then that item's start if the flag is 1
abbrev pub encode_program : Program → List ℕ
encode_program p = encode_flag p.script ++ (encode_span p.span ++ (encode_flag p.shebang ++ encode_optional encode_number p.first))

-- a String node
abbrev pub encode_quoted : Quoted → List ℕ
encode_quoted q = 1 ∷ (encode_span q.span ++ encode_text q.text)

-- how many nodes, arguments, properties
abbrev pub nodes_in : Nodes → ℕ
nodes_in none = zero
nodes_in (more n ns) = suc (nodes_in ns)

abbrev pub arguments_in : Arguments → ℕ
arguments_in no_arguments = zero
arguments_in (argument dots sp n xs) = suc (arguments_in xs)

abbrev pub properties_in : Properties → ℕ
properties_in no_properties = zero
properties_in (spread n ps) = suc (properties_in ps)
properties_in (other_property n ps) = suc (properties_in ps)
properties_in (child_key k v ps) = suc (properties_in ps)
properties_in (string_key k v ps) = suc (properties_in ps)
properties_in (name_key k v ps) = suc (properties_in ps)

-- a node: a tag byte, start, end, then its fields
unfoldable mutual
  pub encode_node : Node → List ℕ
  encode_node (other sp ns) = 0 ∷ (encode_span sp ++ (encode_number (nodes_in ns) ++ encode_nodes ns))
  encode_node (string sp x) = 1 ∷ (encode_span sp ++ encode_text x)
  encode_node (name sp x) = 2 ∷ (encode_span sp ++ encode_text x)
  encode_node (template sp ps ns) = 3 ∷ (encode_span sp ++ (encode_number (nodes_in ns) ++ (flat_map (encode_optional encode_text) ps ++ encode_nodes ns)))
  encode_node (binary sp plus l r) = 4 ∷ (encode_span sp ++ (encode_flag plus ++ (encode_node l ++ encode_node r)))
  encode_node (object sp ps) = 5 ∷ (encode_span sp ++ (encode_number (properties_in ps) ++ encode_properties ps))
  encode_node (import_call sp phase xs ns) =
      6 ∷ (encode_span sp ++
      (phase_number phase ∷ ((encode_number (arguments_in xs) ++ encode_arguments xs) ++ (encode_number (nodes_in ns) ++ encode_nodes ns))))
  encode_node (call sp e xs ns) =
      6 ∷ (encode_span sp ++
      (3 ∷ (encode_node e ++ ((encode_number (arguments_in xs) ++ encode_arguments xs) ++ (encode_number (nodes_in ns) ++ encode_nodes ns)))))
  encode_node (import_decl sp type_only phase side_effect x a) =
      7 ∷ (encode_span sp ++ (encode_flag type_only ++ (phase_number phase ∷ (encode_flag side_effect ++ (encode_quoted x ++ encode_attributes a)))))
  encode_node (named_export sp type_only) = 8 ∷ (encode_span sp ++ (encode_flag type_only ++ encode_flag false))
  encode_node (export_from sp type_only x a) =
      8 ∷ (encode_span sp ++ (encode_flag type_only ++ (encode_flag true ++ (encode_quoted x ++ encode_attributes a))))
  encode_node (export_all sp type_only x a) = 9 ∷ (encode_span sp ++ (encode_flag type_only ++ (encode_quoted x ++ encode_attributes a)))
  encode_node (import_type sp x ns a) = 10 ∷ (encode_span sp ++ (encode_quoted x ++ (encode_number (nodes_in ns) ++ (encode_nodes ns ++ encode_attributes a))))
  encode_node (import_equals sp) = 11 ∷ (encode_span sp ++ encode_flag false)
  encode_node (import_require sp type_only export x) =
      11 ∷ (encode_span sp ++ (encode_flag true ++ (encode_flag type_only ++ (encode_flag export ++ encode_quoted x))))
  encode_node (module_decl sp x ns) = 12 ∷ (encode_span sp ++ (encode_optional encode_quoted x ++ (encode_number (nodes_in ns) ++ encode_nodes ns)))

  pub encode_nodes : Nodes → List ℕ
  encode_nodes none = []
  encode_nodes (more n ns) = encode_node n ++ encode_nodes ns

  -- flag spread, start, end, node
  pub encode_arguments : Arguments → List ℕ
  encode_arguments no_arguments = []
  encode_arguments (argument dots sp n xs) = (encode_flag dots ++ (encode_span sp ++ encode_node n)) ++ encode_arguments xs

  -- byte 0 spread or 1 other, with a child; or 2, key byte (0 child, 1 string text, 2 name text), value node
  pub encode_properties : Properties → List ℕ
  encode_properties no_properties = []
  encode_properties (spread n ps) = (0 ∷ encode_node n) ++ encode_properties ps
  encode_properties (other_property n ps) = (1 ∷ encode_node n) ++ encode_properties ps
  encode_properties (child_key k v ps) = (2 ∷ 0 ∷ (encode_node k ++ encode_node v)) ++ encode_properties ps
  encode_properties (string_key k v ps) = (2 ∷ 1 ∷ (encode_text k ++ encode_node v)) ++ encode_properties ps
  encode_properties (name_key k v ps) = (2 ∷ 2 ∷ (encode_text k ++ encode_node v)) ++ encode_properties ps

  -- flag, Object if 1
  pub encode_attributes : Attributes → List ℕ
  encode_attributes without = encode_flag false
  encode_attributes (with_object sp ps) = encode_flag true ++ (5 ∷ (encode_span sp ++ (encode_number (properties_in ps) ++ encode_properties ps)))

-- media byte, source text, comment count and comments, group count and groups, program, root
unfoldable pub encode_sheet : Sheet → List ℕ
encode_sheet t =
    media_number t.media
    ∷ (encode_text t.source
    ++ (encode_number (length t.comments) ++ (flat_map encode_comment t.comments
    ++ (encode_number (length t.groups) ++ (flat_map encode_group t.groups
    ++ (encode_program t.program
    ++ encode_node t.root))))))
