-- What document 01 asks of a sheet, stated without a decoder: just such sheets are decoded (proofs/Sheets, laws `encoded` and `accepted`).
use Rattle.std.specs.Prelude.{◌≡◌, List, ℕ, zero, suc, ◌+◌, ◌≤◌, ◌<◌, length}
use Rattle.laws.specs.Codec.{All, IfThere}
use Rattle.text.specs.declared.utf8.Encoding.{Encoding}
use Rattle.text.specs.declared.utf8.Encoding.TheVariants.{Utf8, Wtf8}
use Rattle.text.specs.WellFormed.{WellFormed}
use Rattle.text.specs.Position.{Boundary}
use Rattle.wire.specs.Number.{largest}
use Rattle.sheet.specs.Limits.{sheet_limit, source_limit, text_limit, comment_limit, group_limit, depth_limit, property_limit}
use Rattle.sheet.specs.declared.fields.Span.{Span}
use Rattle.sheet.specs.Comments.{slice}
use Rattle.sheet.specs.Quotation.{Quotation}
use Rattle.sheet.specs.Fit.{Fit, Grouped, group_of, HeldBySome}
use Rattle.sheet.specs.Program.{Program}
use Rattle.sheet.specs.Tree.{Quoted, Node, other, string, name, template, binary, object, import_call, call, import_decl, named_export, export_from}
use Rattle.sheet.specs.Tree.{export_all, import_type, import_equals, import_require, module_decl, Nodes, none, more, Arguments, no_arguments, argument}
use Rattle.sheet.specs.Tree.{Properties, no_properties, spread, other_property, child_key, string_key, name_key, Attributes, without, with_object}
use Rattle.sheet.specs.Sheet.{Sheet}
use Rattle.sheet_codec.specs.Encode.{nodes_in, arguments_in, properties_in, encode_sheet}

-- a text: at most so many bytes, well-formed
abbrev pub TextFits : Encoding → ℕ → List ℕ → Type 0
TextFits e limit x = (length x ≤ limit) × WellFormed e x

-- a start and an end: not past the source, not inside a character, the end not before the start
pub record SpanFits (source : List ℕ) (sp : Span) : Type 0 where
  pub start : Boundary source sp.start
  pub end : Boundary source sp.end
  pub order : sp.start ≤ sp.end

-- the program: its start, its end, and the start of its first item
pub record ProgramFits (source : List ℕ) (p : Program) : Type 0 where
  pub span : SpanFits source p.span
  pub first : IfThere (Boundary source) p.first

-- a node's place: a level is left for it, and its start and end fit
pub record PlaceFits (source : List ℕ) (levels : ℕ) (sp : Span) : Type 0 where
  pub deep : 0 < levels
  pub span : SpanFits source sp

-- the levels that are left for the nodes in a node
abbrev pub under : ℕ → ℕ
under zero = zero
under (suc d) = d

-- a String: at least two bytes of the source, which begin and end with the same mark, and WTF-8 of at most 4,096 bytes
pub record StringFits (source : List ℕ) (levels : ℕ) (sp : Span) (x : List ℕ) : Type 0 where
  pub place : PlaceFits source levels sp
  pub quotation : Quotation (slice source sp)
  pub text : TextFits Wtf8 text_limit x

-- one that another node holds
abbrev pub QuotedFits : List ℕ → ℕ → Quoted → Type 0
QuotedFits source levels q = StringFits source levels q.span q.text

-- a node with so many levels left, its own among them; each count is at most 4,294,967,295
unfoldable mutual
  pub NodeFits : List ℕ → Node → ℕ → Type 0
  NodeFits source (other sp ns) levels = PlaceFits source levels sp × ((nodes_in ns ≤ largest) × NodesFit source ns (under levels))
  NodeFits source (string sp x) levels = StringFits source levels sp x
  NodeFits source (name sp x) levels = PlaceFits source levels sp × TextFits Utf8 text_limit x
  NodeFits source (template sp ps ns) levels =
      PlaceFits source levels sp
      × (((length ps ≡ nodes_in ns + 1) × All (IfThere (TextFits Wtf8 text_limit)) ps)  -- a piece more than holes
      × ((nodes_in ns ≤ largest) × NodesFit source ns (under levels)))
  NodeFits source (binary sp plus l r) levels = PlaceFits source levels sp × (NodeFits source l (under levels) × NodeFits source r (under levels))
  NodeFits source (object sp ps) levels = PlaceFits source levels sp × ((properties_in ps ≤ property_limit) × PropertiesFit source ps (under levels))
  NodeFits source (import_call sp phase xs ns) levels =
      PlaceFits source levels sp
      × (((arguments_in xs ≤ largest) × ArgumentsFit source xs (under levels))
      × ((nodes_in ns ≤ largest) × NodesFit source ns (under levels)))
  NodeFits source (call sp e xs ns) levels =
      PlaceFits source levels sp
      × (NodeFits source e (under levels)
      × (((arguments_in xs ≤ largest) × ArgumentsFit source xs (under levels))
      × ((nodes_in ns ≤ largest) × NodesFit source ns (under levels))))
  NodeFits source (import_decl sp type_only phase side_effect x a) levels =
      PlaceFits source levels sp × (QuotedFits source (under levels) x × AttributesFit source a (under levels))
  NodeFits source (named_export sp type_only) levels = PlaceFits source levels sp × Unit {0}
  NodeFits source (export_from sp type_only x a) levels =
      PlaceFits source levels sp × (QuotedFits source (under levels) x × AttributesFit source a (under levels))
  NodeFits source (export_all sp type_only x a) levels =
      PlaceFits source levels sp × (QuotedFits source (under levels) x × AttributesFit source a (under levels))
  NodeFits source (import_type sp x ns a) levels =
      PlaceFits source levels sp
      × (QuotedFits source (under levels) x
      × ((nodes_in ns ≤ largest) × (NodesFit source ns (under levels) × AttributesFit source a (under levels))))
  NodeFits source (import_equals sp) levels = PlaceFits source levels sp × Unit {0}
  NodeFits source (import_require sp type_only export x) levels = PlaceFits source levels sp × QuotedFits source (under levels) x
  NodeFits source (module_decl sp x ns) levels =
      PlaceFits source levels sp × (IfThere (QuotedFits source (under levels)) x × ((nodes_in ns ≤ largest) × NodesFit source ns (under levels)))

  pub NodesFit : List ℕ → Nodes → ℕ → Type 0
  NodesFit source none levels = Unit {0}
  NodesFit source (more n ns) levels = NodeFits source n levels × NodesFit source ns levels

  pub ArgumentsFit : List ℕ → Arguments → ℕ → Type 0
  ArgumentsFit source no_arguments levels = Unit {0}
  ArgumentsFit source (argument dots sp n xs) levels = (SpanFits source sp × NodeFits source n levels) × ArgumentsFit source xs levels

  -- a string key is WTF-8, a name key UTF-8
  pub PropertiesFit : List ℕ → Properties → ℕ → Type 0
  PropertiesFit source no_properties levels = Unit {0}
  PropertiesFit source (spread n ps) levels = NodeFits source n levels × PropertiesFit source ps levels
  PropertiesFit source (other_property n ps) levels = NodeFits source n levels × PropertiesFit source ps levels
  PropertiesFit source (child_key k v ps) levels = (NodeFits source k levels × NodeFits source v levels) × PropertiesFit source ps levels
  PropertiesFit source (string_key k v ps) levels = (TextFits Wtf8 text_limit k × NodeFits source v levels) × PropertiesFit source ps levels
  PropertiesFit source (name_key k v ps) levels = (TextFits Utf8 text_limit k × NodeFits source v levels) × PropertiesFit source ps levels

  -- the Object is a node too
  pub AttributesFit : List ℕ → Attributes → ℕ → Type 0
  AttributesFit source without levels = Unit {0}
  AttributesFit source (with_object sp ps) levels = PlaceFits source levels sp × ((properties_in ps ≤ property_limit) × PropertiesFit source ps (under levels))

-- the fields of a sheet
pub record FieldsFit (t : Sheet) : Type 0 where
  pub source : TextFits Utf8 source_limit t.source
  pub comments : (length t.comments ≤ comment_limit) × Fit t.source t.comments
  pub groups : (length t.groups ≤ group_limit) × Grouped (length t.comments) t.groups
  pub places : (k : ℕ) → k < length t.groups → Boundary t.source (group_of t.groups k).position  -- each group is at a boundary
  pub grouped : (i : ℕ) → i < length t.comments → HeldBySome t.groups i  -- each comment is in some group
  pub program : ProgramFits t.source t.program
  pub root : NodeFits t.source t.root depth_limit  -- nodes nest at most 64 deep, the root is 1

-- and the sheet has at most 65,536 bytes
pub record WithinLimits (t : Sheet) : Type 0 where
  pub fields : FieldsFit t
  pub bytes : length (encode_sheet t) ≤ sheet_limit
