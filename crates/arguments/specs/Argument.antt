-- The argument of a dynamic import: `DynamicArgument` as `visit_call_expr` of src/ast/dep.rs makes it.
use Rattle.std.specs.Prelude.{cond, List, [], ◌∷◌, ◌++◌, ℕ}
use Rattle.std.specs.Prelude.{None, Option, Some}
use Rattle.text.specs.Lossy.{lossy, replaced}
use Rattle.sheet.specs.Tree.{Pieces, Node, other, string, name, template, binary, object, import_call, call, import_decl, named_export, export_from}
use Rattle.sheet.specs.Tree.{export_all, import_type, import_equals, import_require, module_decl}
use Rattle.sheet.specs.Shape.{Shape, text, named, pieces, operation, properties, anything, shape}
use Rattle.report.specs.ModuleInfo.{DynamicTemplatePart, DynamicArgument}
use Rattle.report.specs.ModuleInfo as info

-- a piece of a template is a part if it has text. A listed call has no uncooked piece (refusal 9)
abbrev pub piece_parts : Option (List ℕ) → List DynamicTemplatePart
piece_parts None = []
piece_parts (Some []) = []
piece_parts (Some (b ∷ x)) = Some (lossy (b ∷ x)) ∷ []

-- the pieces' parts, with an expression between each two
abbrev pub template_parts : Pieces → List DynamicTemplatePart
template_parts [] = []
template_parts (p ∷ []) = piece_parts p
template_parts (p ∷ q ∷ ps) = piece_parts p ++ (None ∷ template_parts (q ∷ ps))

-- a template of one piece is its text
abbrev pub of_pieces : Pieces → DynamicArgument
of_pieces [] = info.expr
of_pieces (None ∷ []) = info.expr
of_pieces (Some x ∷ []) = info.string (lossy x)
of_pieces (p ∷ q ∷ ps) = info.template (template_parts (p ∷ q ∷ ps))

-- the right side of a plus
abbrev pub operand : Shape → DynamicTemplatePart
operand (text x) = Some (lossy x)
operand (named x) = None
operand (pieces ps) = None
operand (operation plus l r) = None
operand (properties ps) = None
operand anything = None

abbrev pub appended : Option (List DynamicTemplatePart) → DynamicTemplatePart → Option (List DynamicTemplatePart)
appended None p = None
appended (Some l) p = Some (l ++ (p ∷ []))

-- `visit_bin`: the parts of a chain of pluses whose leftmost side is a String
unfoldable pub chain : Node → Option (List DynamicTemplatePart)
chain (other sp ns) = None
chain (string sp x) = Some (Some (lossy x) ∷ [])
chain (name sp x) = None
chain (template sp ps ns) = None
chain (binary sp plus l r) = cond plus (appended (chain l) (operand (shape r))) None
chain (object sp ps) = None
chain (import_call sp phase xs ns) = None
chain (call sp e xs ns) = None
chain (import_decl sp type_only phase side_effect x a) = None
chain (named_export sp type_only) = None
chain (export_from sp type_only x a) = None
chain (export_all sp type_only x a) = None
chain (import_type sp x ns a) = None
chain (import_equals sp) = None
chain (import_require sp type_only export x) = None
chain (module_decl sp x ns) = None

abbrev pub of_chain : Option (List DynamicTemplatePart) → DynamicArgument
of_chain None = info.expr
of_chain (Some l) = info.template l

abbrev pub of_shape : Shape → Option (List DynamicTemplatePart) → DynamicArgument
of_shape (text x) parts = info.string (lossy x)
of_shape (named x) parts = info.expr
of_shape (pieces ps) parts = of_pieces ps
of_shape (operation plus l r) parts = of_chain parts
of_shape (properties ps) parts = info.expr
of_shape anything parts = info.expr

unfoldable pub argument_of : Node → DynamicArgument
argument_of n = of_shape (shape n) (chain n)

-- ---- the single text of an argument, of which alone the surrogates are counted

-- the text of a template without holes
abbrev pub one_piece : Pieces → Option (List ℕ)
one_piece [] = None
one_piece (p ∷ []) = p
one_piece (p ∷ q ∷ ps) = None

-- the text of a String or of a template without holes, in WTF-8; parts are none
abbrev pub single_text : Shape → Option (List ℕ)
single_text (text x) = Some x
single_text (named x) = None
single_text (pieces ps) = one_piece ps
single_text (operation plus l r) = None
single_text (properties ps) = None
single_text anything = None

-- the number of surrogates of such a text, none of what has none
abbrev pub replaced_in : Option (List ℕ) → ℕ
replaced_in None = 0
replaced_in (Some x) = replaced x
