-- What follows the head of a node: with it the whole node.
use Rattle.std.specs.Prelude.{Bool, cond, List, [], ℕ, ◌+◌}
use Rattle.laws.specs.Decoded.{Decoder, ◌>>=◌, return}
use Rattle.sheet.specs.declared.fields.Span.{Span}
use Rattle.sheet.specs.Tree.{Node, other, string, name, template, binary, object, import_call, call, import_decl, named_export, export_from, export_all}
use Rattle.sheet.specs.Tree.{import_type, import_equals, import_require, module_decl, Attributes, without}
use Rattle.sheet.specs.Nodes.{many, piece, nodes, properties, call_rest, type_rest, node, attributes_object}
use Rattle.sheet_heads.specs.code.Head.{Head, other_head, string_head, name_head, template_head, binary_head, object_head, import_call_head, call_head}
use Rattle.sheet_heads.specs.code.Head.{import_head, named_export_head, export_from_head, export_all_head, import_type_head, import_equals_head}
use Rattle.sheet_heads.specs.code.Head.{import_require_head, module_head}

-- an Object where the flag is 1
abbrev pub behind : Bool → Decoder Attributes → Decoder Attributes
behind has_object inner = cond has_object inner (return without)

-- a node from its span and its head: from decoders of a node and of an Object one level down, where so many levels are left
module _ (source : List ℕ) (levels : ℕ) (inner : Decoder Node) (object' : Decoder Attributes) (sp : Span) where
  abbrev pub rest_of : Head → Decoder Node
  rest_of (other_head n) = nodes inner n >>= λ ns. return (other sp ns)
  rest_of (string_head x) = return (string sp x)
  rest_of (name_head x) = return (name sp x)
  rest_of (template_head n) = many [] piece (n + 1) >>= λ ps. nodes inner n >>= λ ns. return (template sp ps ns)
  rest_of (binary_head plus) = inner >>= λ l. inner >>= λ r. return (binary sp plus l r)
  rest_of (object_head n) = properties inner n >>= λ ps. return (object sp ps)
  rest_of (import_call_head phase) = call_rest inner source >>= λ p. return (import_call sp phase p.0 p.1)
  rest_of call_head = inner >>= λ e. call_rest inner source >>= λ p. return (call sp e p.0 p.1)
  rest_of (import_head type_only phase side_effect x has_object) = behind has_object object' >>= λ a. return (import_decl sp type_only phase side_effect x a)
  rest_of (named_export_head type_only) = return (named_export sp type_only)
  rest_of (export_from_head type_only x has_object) = behind has_object object' >>= λ a. return (export_from sp type_only x a)
  rest_of (export_all_head type_only x has_object) = behind has_object object' >>= λ a. return (export_all sp type_only x a)
  rest_of (import_type_head x n) = type_rest inner object' n >>= λ p. return (import_type sp x p.0 p.1)
  rest_of import_equals_head = return (import_equals sp)
  rest_of (import_require_head type_only export x) = return (import_require sp type_only export x)
  rest_of (module_head x n) = nodes inner n >>= λ ns. return (module_decl sp x ns)

-- the rest of a node, where so many levels are left below it
abbrev pub rest : List ℕ → ℕ → Span × Head → Decoder Node
rest source levels p = rest_of source levels (node source levels) (attributes_object source levels) p.0 p.1
