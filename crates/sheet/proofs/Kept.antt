-- What holds of bytes, and is kept however decoders are put together, holds of the decoder of a sheet.
use Rattle.laws.proofs.Prelude.{Bool, ◌&&◌, List, [], ◌∷◌, ℕ, zero, suc, ◌+◌, eqb, leb, ltb}
use Rattle.laws.specs.Decoded.{Decoder, ◌>>=◌, return}
use Rattle.laws.proofs.Kept.{done, next, test, either, at_index}
use Rattle.text.specs.{declared.utf8.Encoding.TheVariants.Utf8, declared.utf8.Encoding.TheVariants.Wtf8, Position.is_boundary}
use Rattle.wire.specs.Number.{number}
use Rattle.wire.proofs.Kept.{OfFields, two, three, four, six, seven, thirteen, below_kept, numbered_kept, flag_kept, optional_kept, number_kept, count_kept}
use Rattle.wire.proofs.Kept.{text_kept}
use Rattle.sheet.specs.Limits.{source_limit, text_limit, comment_limit, group_limit, depth_limit, property_limit}
use Rattle.sheet.specs.declared.{fields.Span.Span, comments.Comment.Comment, groups.Group.Group, names.Side.Side}
use Rattle.sheet.specs.Names.{media_types, comment_kinds, sides, import_phases}
use Rattle.sheet.specs.Tree.{Quoted, Pieces, Node, Nodes, Arguments, Properties, Attributes}
use Rattle.sheet.specs.Fields.{position, end_from, span}
use Rattle.sheet.specs.Comments.{slice, marked, chained, comment, group, anywhere, covered}
use Rattle.sheet.specs.{Quotation.looks_quoted, Program.Program, Program.program, Sheet.Sheet, Sheet.sheet}
use Rattle.sheet.specs.Nodes.{many, tag, text_behind, string_text, quoted, piece, nodes, argument_item, arguments, keyed_item, property_item, properties}
use Rattle.sheet.specs.Nodes.{call_rest, attributes, type_rest, other_fields, string_fields, name_fields, template_fields, binary_fields, object_fields}
use Rattle.sheet.specs.Nodes.{call_fields, import_fields, named_export_fields, export_all_fields, import_type_fields, import_equals_fields, module_fields}
use Rattle.sheet.specs.Nodes.{fields, node, attributes_object}

module _ {P : (A : Type 0) → Decoder A → Type 0} (h : OfFields P) where
  open h use {kept, a_byte}
  open h.kept use {ends, refuses, then, changed}

  a_number_lem : P ℕ number
  a_number_lem = number_kept kept two a_byte

  pub chained_kept : {A S : Type 0} {item : S → Decoder A} (leaves : A → S) → ((s : S) → P A (item s)) → (s : S) (k : ℕ) → P (List A) (chained item leaves s k)
  unfolding chained
  chained_kept leaves p s zero = ends []
  chained_kept leaves p s (suc k) = then (p s) (λ a. changed (a ∷◌) (chained_kept leaves p (leaves a) k))

  module _ (source : List ℕ) where
    position_kept : P ℕ (position source)
    unfolding position
    position_kept = then a_number_lem (λ p. test kept (is_boundary source p) six (ends p))

    end_kept : (start : ℕ) → P ℕ (end_from source start)
    unfolding end_from
    end_kept start = then position_kept (λ p. test kept (leb start p) six (ends p))

    pub span_kept : P Span (span source)
    unfolding span
    span_kept = then position_kept (λ start. then (end_kept start) (λ p. ends _))

    pub comment_kept : (last : ℕ) → P Comment (comment source last)
    unfolding comment
    comment_kept last =
        then (numbered_kept h comment_kinds) (λ kind. then position_kept (λ start. test kept (leb last start) seven (then (end_kept start) (λ p.
        test kept (marked kind (slice source (record { start = start; end = p }))) seven (ends _)))))

    pub group_kept : (total : ℕ) (after : Side → ℕ → Bool) → P Group (group source total after)
    unfolding group
    group_kept total after =
        then (numbered_kept h sides) (λ side. then position_kept (λ p. test kept (after side p) seven (then a_number_lem (λ first. then a_number_lem (λ n.
        test kept (ltb 0 n && leb (first + n) total) seven (ends _))))))

    pub program_kept : P Program (program source)
    unfolding program
    program_kept = then (flag_kept h) (λ script. then span_kept (λ sp. then (flag_kept h) (λ shebang. then (optional_kept h position_kept) (λ first. ends _))))

  many_kept : {L : Type 0} (end : L) {item : Decoder (L → L)} → P (L → L) item → (k : ℕ) → P L (many end item k)
  unfolding many
  many_kept end p zero = ends end
  many_kept end p (suc k) = then p (λ add. changed add (many_kept end p k))

  pub tag_kept : (allowed : ℕ → Bool) (levels : ℕ) → P ℕ (tag allowed levels)
  unfolding tag
  tag_kept allowed levels = then a_byte (λ t. test kept (allowed t) three (test kept (ltb 0 levels) four (ends t)))

  string_text_kept : (source : List ℕ) (sp : Span) → P (List ℕ) (string_text source sp)
  unfolding text_behind
  string_text_kept source sp = test kept (looks_quoted (slice source sp)) thirteen (text_kept h Wtf8 text_limit)

  quoted_kept : (source : List ℕ) (levels : ℕ) → P Quoted (quoted source levels)
  unfolding quoted
  quoted_kept source levels = then (tag_kept (eqb 1) levels) (λ t. then (span_kept source) (λ sp. then (string_text_kept source sp) (λ x. ends _)))

  piece_kept : P (Pieces → Pieces) piece
  unfolding piece
  piece_kept = then (optional_kept h (text_kept h Wtf8 text_limit)) (λ x. ends _)

  -- the parts of a node that hold nodes
  module _ {inner : Decoder Node} (p : P Node inner) where
    nodes_kept : (k : ℕ) → P Nodes (nodes inner k)
    unfolding nodes
    nodes_kept k = many_kept _ (changed _ p) k

    arguments_kept : (source : List ℕ) (k : ℕ) → P Arguments (arguments inner source k)
    unfolding arguments argument_item
    arguments_kept source k = many_kept _ (then (flag_kept h) (λ dots. then (span_kept source) (λ sp. then p (λ n. ends _)))) k

    keyed_kept : (kind : ℕ) → P (Properties → Properties) (keyed_item inner kind)
    unfolding keyed_item
    keyed_kept kind =
        at_index kept
        (next (then p (λ k. then p (λ v. ends _)))
        (next (then (text_kept h Wtf8 text_limit) (λ k. then p (λ v. ends _)))
        (next (then (text_kept h Utf8 text_limit) (λ k. then p (λ v. ends _))) done)))
        kind three

    pub property_kept : P (Properties → Properties) (property_item inner)
    unfolding property_item
    property_kept =
        then a_byte (λ kind. at_index kept (next (then p (λ n. ends _)) (next (then p (λ n. ends _)) (next (then a_byte keyed_kept) done))) kind three)

    properties_kept : (k : ℕ) → P Properties (properties inner k)
    unfolding properties
    properties_kept k = many_kept _ property_kept k

  -- what follows a tag and a span
  module _ (source : List ℕ) (levels : ℕ) {inner : Decoder Node} {object : Decoder Attributes} (p : P Node inner) (q : P Attributes object) (sp : Span) where
    rest_kept : (build : Arguments × Nodes → Node) → P Node (call_rest inner source >>= λ p. return (build p))
    unfolding call_rest
    rest_kept build = then (then a_number_lem (λ n. then (arguments_kept p source n) (λ xs. then a_number_lem (λ m. then (nodes_kept p m) (λ ns. ends _)))))
        (λ p. ends _)

    attributed : {A : Type 0} (f : Attributes → A) → P A (attributes object >>= λ a. return (f a))
    unfolding attributes
    attributed f = then (then (flag_kept h) (λ has_object. either kept has_object q (ends _))) (λ a. ends (f a))

    fields_kept : (t : ℕ) → P Node (fields source levels inner object sp t)
    unfolding fields other_fields string_fields name_fields template_fields binary_fields object_fields call_fields import_fields named_export_fields
        export_all_fields import_type_fields type_rest import_equals_fields module_fields
    fields_kept t =
        let x = quoted_kept source levels in
        let flag_first = flag_kept h in
        at_index kept
        (next (then a_number_lem (λ n. then (nodes_kept p n) (λ ns. ends _)))
        (next (then (string_text_kept source sp) (λ x. ends _))
        (next (then (text_kept h Utf8 text_limit) (λ x. ends _))
        (next (then a_number_lem (λ n. then (many_kept [] piece_kept (n + 1)) (λ ps. then (nodes_kept p n) (λ ns. ends _))))
        (next (then flag_first (λ plus. then p (λ l. then p (λ r. ends _))))
        (next (then (count_kept h property_limit) (λ n. then (properties_kept p n) (λ ps. ends _)))
        (next (then (below_kept h 4) (λ callee. either kept (ltb callee 3) (rest_kept _) (then p (λ e. rest_kept _))))
        (next (then flag_first (λ type_only. then (numbered_kept h import_phases) (λ phase. then flag_first (λ side_effect. then x (λ x. attributed _)))))
        (next (then flag_first (λ type_only. then flag_first (λ named. either kept named (then x (λ x. attributed _)) (ends _))))
        (next (then flag_first (λ type_only. then x (λ x. attributed _)))
        (next (then x (λ x. then a_number_lem (λ n. then (then (nodes_kept p n) (λ ns. attributed _)) (λ p. ends _))))
        (next (then flag_first (λ external. either kept external (then flag_first (λ type_only. then flag_first (λ export. then x (λ x. ends _)))) (ends _)))
        (next (then (optional_kept h (quoted_kept source levels)) (λ x. then a_number_lem (λ n. then (nodes_kept p n) (λ ns. ends _))))
        done)))))))))))))
        t three

  module _ (source : List ℕ) where
    mutual
      unfolding node attributes_object

      pub node_kept : (levels : ℕ) → P Node (node source levels)
      node_kept zero = then (tag_kept _ 0) (λ t. refuses four)
      node_kept (suc d) = then (tag_kept _ (suc d)) (λ t. then (span_kept source) (λ sp. fields_kept source d (node_kept d) (object_kept d) sp t))

      object_kept : (levels : ℕ) → P Attributes (attributes_object source levels)
      object_kept zero = then (tag_kept (eqb 5) 0) (λ t. refuses four)
      object_kept (suc d) =
          then (tag_kept (eqb 5) (suc d))
          (λ t. then (span_kept source) (λ sp. then (count_kept h property_limit) (λ n. then (properties_kept (node_kept d) n) (λ ps. ends _))))

  pub sheet_kept : P Sheet sheet
  unfolding sheet
  sheet_kept =
      then (numbered_kept h media_types) (λ media. then (text_kept h Utf8 source_limit) (λ source.
      then (count_kept h comment_limit) (λ n. then (chained_kept _ (comment_kept source) 0 n) (λ cs.
      then (count_kept h group_limit) (λ m. then (chained_kept _ (group_kept source n) anywhere m) (λ gs.
      test kept (covered gs n) seven (then (program_kept source) (λ p. then (node_kept source depth_limit) (λ root. ends _)))))))))
