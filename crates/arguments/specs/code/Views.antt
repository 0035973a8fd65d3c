-- What the answers of the code stand for, and the bounds that they keep.
use Rattle.std.specs.Prelude.{◌≡◌, true, ℕ, ◌+◌, ◌≤◌, ◌<◌, length}
use Rattle.std.specs.Borrow.{Bor}
use mathlib.Core.List.{List, [], flat_map}
use Rattle.std.specs.Prelude.{None, Option, Some, option_map}
use Rattle.laws.specs.Codec.{IfThere}
use Rattle.laws.specs.Decoded.{ok, Decoder}
use Rattle.laws.specs.code.Among.{EndOf, PartOf}
use Rattle.text.specs.Lossy.{lossy, replaced}
use Rattle.wire.specs.Text.{encode_text}
use Rattle.wire.specs.Optional.{encode_optional}
use Rattle.sheet.specs.declared.fields.Span.{Span}
use Rattle.sheet.specs.Tree.{Pieces, Node, Nodes, string, template, binary}
use Rattle.sheet.specs.Nodes.{many, piece, node}
use Rattle.sheet.specs.Shape.{shape}
use Rattle.report.specs.ModuleInfo.{DynamicTemplatePart}
use Rattle.report.specs.ModuleInfo as info
use Rattle.arguments.specs.Argument.{template_parts, operand, chain, argument_of, single_text}
use Rattle.arguments.specs.declared.expression.Expression.{Expression}
use Rattle.arguments.specs.declared.expression.Expression.TheVariants as expression
use Rattle.arguments.specs.declared.argument.DynamicArgument.{DynamicArgument}
use Rattle.arguments.specs.declared.argument.DynamicArgument.TheVariants as argument

-- parts one after the other
abbrev pub encode_parts : List DynamicTemplatePart → List ℕ
encode_parts = flat_map (encode_optional encode_text)

-- the text of a piece, if it is cooked
abbrev pub piece_in : Option (Bor (List ℕ)) → Option (List ℕ)
piece_in = option_map (λ x. x.now)

-- nothing is known of the text of an expression, wherever it stands in an argument
pub record Unknown (n : Node) : Type 0 where
  pub side : operand (shape n) ≡ None
  pub parts : chain n ≡ None
  pub whole : argument_of n ≡ info.expr
  pub single : single_text (shape n) ≡ None

-- the node n, with t behind it, is a String with that text, and next is what is behind it
pub record IsString (text next : List ℕ) (n : Node) (t : List ℕ) : Type 0 where
  pub span : Span
  pub is : n ≡ string span text
  pub past : next ≡ t

-- a Template with so many holes, whose pieces stand at the front of s
pub record IsTemplate (holes : ℕ) (s : List ℕ) (n : Node) : Type 0 where
  pub span : Span
  pub pieces : Pieces
  pub nodes : Nodes
  pub behind : List ℕ
  pub is : n ≡ template span pieces nodes
  pub read : many [] piece (holes + 1) s ≡ ok pieces behind

-- a plus whose sides stand at the front of s; inner reads them
pub record IsPlus (inner : Decoder Node) (s : List ℕ) (n : Node) (t : List ℕ) : Type 0 where
  pub span : Span
  pub left : Node
  pub right : Node
  pub between : List ℕ
  pub is : n ≡ binary span true left right
  pub first : inner s ≡ ok left between
  pub second : inner between ≡ ok right t

-- what was read of an expression is the node n, with t behind it
abbrev pub ExpressionIs : Decoder Node → Expression → Node → List ℕ → Type 0
ExpressionIs inner (expression.String text next) n t = IsString text.now next.now n t
ExpressionIs inner (expression.Template pieces) n t = IsTemplate pieces.holes pieces.bytes.now n
ExpressionIs inner (expression.Plus next) n t = IsPlus inner next.now n t
ExpressionIs inner expression.Other n t = Unknown n

-- of any bytes s: a level was left for the node; a text is a part of them, and they end with the pieces
abbrev pub ExpressionWithin : List ℕ → ℕ → Expression → Type 0
ExpressionWithin s levels (expression.String text next) = (0 < levels) × PartOf text.now s
ExpressionWithin s levels (expression.Template pieces) = (0 < levels) × EndOf pieces.bytes.now s
ExpressionWithin s levels (expression.Plus next) = 0 < levels
ExpressionWithin s levels expression.Other = Unit {0}

-- how many parts a chain has, and what stands behind it; or it is none
abbrev pub parts_as : Option (ℕ × Bor (List ℕ)) → Option (ℕ × List ℕ)
parts_as = option_map (λ (p : ℕ × Bor (List ℕ)). (p.0, p.1.now))

abbrev pub counted : Option (List DynamicTemplatePart) → List ℕ → Option (ℕ × List ℕ)
counted parts t = option_map (λ (l : List DynamicTemplatePart). (length l, t)) parts

-- each part took a level
abbrev pub PartsWithin : ℕ → Option (ℕ × Bor (List ℕ)) → Type 0
PartsWithin levels = IfThere (λ (p : ℕ × Bor (List ℕ)). p.0 ≤ levels)

-- what an argument stands for, with the number of surrogates of its single text, over a source and with so many levels left
abbrev pub Stands : List ℕ → ℕ → DynamicArgument → info.DynamicArgument → ℕ → Type 0
Stands source levels argument.Expr v replacements = (v ≡ info.expr) × (replacements ≡ 0)
Stands source levels (argument.String text) v replacements = (v ≡ info.string (lossy text.now)) × (replacements ≡ replaced text.now)
Stands source levels (argument.Template k pieces) v replacements =
    ((ps : Pieces) × (u : List ℕ) × (many [] piece (pieces.holes + 1) pieces.bytes.now ≡ ok ps u) × (length (template_parts ps) ≡ k)
    × (v ≡ info.template (template_parts ps)))
    × (replacements ≡ 0)
Stands source levels (argument.Chain k s) v replacements =
    ((n : Node) × (t : List ℕ) × (l : List DynamicTemplatePart)
    × (node source levels s.now ≡ ok n t) × (chain n ≡ Some l) × (length l ≡ k) × (v ≡ info.template l))
    × (replacements ≡ 0)

-- of any bytes s: a text is a part of them
abbrev pub ArgumentWithin : List ℕ → DynamicArgument → Type 0
ArgumentWithin s argument.Expr = Unit {0}
ArgumentWithin s (argument.String text) = PartOf text.now s
ArgumentWithin s (argument.Template k pieces) = Unit {0}
ArgumentWithin s (argument.Chain k x) = Unit {0}
