-- What holds of each node that a head may have behind it holds of the node that is read.
use Rattle.std.specs.Borrow.{Bor}
use Rattle.laws.proofs.Prelude.{◌≡◌, refl, Bool, List, [], ℕ, ◌+◌}
use Rattle.laws.specs.Decoded.{Decoder}
use Rattle.laws.proofs.Answers.{Yields, ends, behind}
use Rattle.sheet.specs.{declared.fields.Span.Span, Shape.anything, Shape.shape}
use Rattle.sheet.specs.Tree.{Pieces, Node, string, name, template, binary, object, Nodes, Properties, Attributes}
use Rattle.sheet.specs.Nodes.{many, piece, nodes, properties, call_rest, type_rest, node, attributes_object}
use Rattle.sheet_heads.specs.{declared.node.Head.Head, code.Rest.behind as object_behind, code.Rest.rest, code.Views.head_of}
use Rattle.sheet_heads.specs.declared.node.Head.TheVariants as head

module _ (source : List ℕ) (levels : ℕ) (sp : Span) (P : Node → Type 0) where
  -- what holds of a node by its head x; of a node that is of no kind in question it holds anyway
  pub record Holds (x : Head) : Type 0 where
    pub others : (n : Node) → shape n ≡ anything → P n
    pub strings : (y : Bor (List ℕ)) → x ≡ head.String y → P (string sp y.now)
    pub names : (y : Bor (List ℕ)) → x ≡ head.Name y → P (name sp y.now)
    pub templates : (holes : ℕ) → x ≡ head.Template holes → (ps : Pieces) (ns : Nodes) → P (template sp ps ns)
    pub operations : (plus : Bool) → x ≡ head.Binary plus → (l r : Node) → P (binary sp plus l r)
    pub objects : (n : ℕ) → x ≡ head.Object n → (ps : Properties) → P (object sp ps)

  abbrev inner : Decoder Node
  inner = node source levels

  abbrev object' : Decoder Attributes
  object' = attributes_object source levels

  pub shape_by_head : (x : Head) → Holds x → Yields P (rest source levels (sp, head_of x))
  shape_by_head (head.Other n) h = behind (nodes inner n) λ ns. ends (h.others _ refl)
  shape_by_head (head.String y) h = ends (h.strings y refl)
  shape_by_head (head.Name y) h = ends (h.names y refl)
  shape_by_head (head.Template holes) h = behind (many [] piece (holes + 1)) λ ps. behind (nodes inner holes) λ ns. ends (h.templates holes refl ps ns)
  shape_by_head (head.Binary plus) h = behind inner λ l. behind inner λ r. ends (h.operations plus refl l r)
  shape_by_head (head.Object n) h = behind (properties inner n) λ ps. ends (h.objects n refl ps)
  shape_by_head (head.ImportCall phase) h = behind (call_rest inner source) λ p. ends (h.others _ refl)
  shape_by_head head.Call h = behind inner λ e. behind (call_rest inner source) λ p. ends (h.others _ refl)
  shape_by_head (head.Import d) h = behind (object_behind d.has_object object') λ a. ends (h.others _ refl)
  shape_by_head (head.NamedExport type_only) h = ends (h.others _ refl)
  shape_by_head (head.ExportFrom d) h = behind (object_behind d.has_object object') λ a. ends (h.others _ refl)
  shape_by_head (head.ExportAll d) h = behind (object_behind d.has_object object') λ a. ends (h.others _ refl)
  shape_by_head (head.ImportType x n) h = behind (type_rest inner object' n) λ p. ends (h.others _ refl)
  shape_by_head head.ImportEquals h = ends (h.others _ refl)
  shape_by_head (head.ImportRequire d) h = ends (h.others _ refl)
  shape_by_head (head.Module x n) h = behind (nodes inner n) λ ns. ends (h.others _ refl)
