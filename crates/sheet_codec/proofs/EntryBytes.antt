-- Each dependency takes at least nine bytes of the sheet, so a sheet has at most `entry_limit` of them.
use Rattle.std.specs.Prelude.{Some, None}
use Rattle.laws.proofs.Prelude.{ap, Bool, true, false, ◌&&◌, List, Option, ℕ, ◌+◌, ◌*◌, ◌≤◌, arith, length, length-append}
use Rattle.text.{specs.Truth.one, proofs.Ones.one_most}
use Rattle.wire.{specs.Number.encode_number, specs.Text.encode_text, specs.Optional.encode_optional, proofs.Lengths.number_long}
use Rattle.sheet.specs.{Limits.entry_bytes, Limits.entry_limit, declared.fields.Span.Span, Sheet.Sheet}
use Rattle.sheet.specs.Tree.{Quoted, Node, other, string, name, template, binary, object, import_call, call, import_decl, named_export, export_from, export_all}
use Rattle.sheet.specs.Tree.{import_type, import_equals, import_require, module_decl, Nodes, none, more, Arguments, no_arguments, argument, Properties}
use Rattle.sheet.specs.Tree.{no_properties, spread, other_property, child_key, string_key, name_key, Attributes, without, with_object}
use Rattle.sheet.specs.Shape.{shape, is_require, is_augmentation}
use Rattle.sheet.specs.Walk.{walk_all, walk_of, walk_in, walk_with}
use Rattle.sheet.specs.Walked.{any_argument, declares, counting, entries}
use Rattle.sheet_codec.specs.Encode.{nodes_in, arguments_in, encode_quoted, encode_node, encode_nodes, encode_arguments, encode_properties, encode_attributes}
use Rattle.sheet_codec.specs.Encode.{encode_sheet}
use Rattle.sheet_codec.specs.SheetOf.{SheetOf}

-- a span, a text and a String, as the parts of a node's length
span_long : (sp : Span) → 2 ≤ length (encode_number sp.start) + length (encode_number sp.end)
span_long sp = omega (arith, number_long sp.start, number_long sp.end)

text_long : (x : List ℕ) → 1 ≤ length (encode_text x)
unfolding encode_text
text_long x = rw length-append (omega (arith, number_long (length x)))

quoted_long : (q : Quoted) → 3 ≤ length (encode_number q.span.start) + length (encode_number q.span.end) + length (encode_text q.text)
quoted_long q = omega (arith, span_long q.span, text_long q.text)

-- a call gives an entry only if it has an argument
both_most : (a b : Bool) → one (a && b) ≤ one b
both_most true b = omega arith
both_most false b = omega arith

-- a module declaration only if it has a String
declared_long : (x : Option Quoted) → 1 + 4 * one (declares x) ≤ length (encode_optional encode_quoted x)
unfolding encode_optional
declared_long None = omega arith
declared_long (Some q) = simp length-append (omega (arith, one_most (is_augmentation q.text), quoted_long q))

mutual
  unfolding encode_node encode_nodes encode_arguments encode_properties encode_attributes

  node_entries : (n : Node) → entry_bytes * entries n ≤ length (encode_node n)
  node_entries (other sp ns) = simp length-append (omega (arith, nodes_entries ns))
  node_entries (string sp x) = omega arith
  node_entries (name sp x) = omega arith
  node_entries (template sp ps ns) = simp length-append (omega (arith, nodes_entries ns))
  node_entries (binary sp plus l r) = simp length-append (omega (arith, node_entries l, node_entries r))
  node_entries (object sp ps) = simp length-append (omega (arith, properties_entries ps))
  node_entries (import_call sp phase xs ns) =
      simp length-append
      (omega (
        arith,
        span_long sp,
        number_long (arguments_in xs),
        arguments_entries xs,
        one_most (any_argument xs),
        number_long (nodes_in ns),
        nodes_entries ns,
      ))
  node_entries (call sp e xs ns) =
      simp length-append
      (omega (
        arith,
        span_long sp,
        node_entries e,
        number_long (arguments_in xs),
        arguments_entries xs,
        both_most (is_require (shape e)) (any_argument xs),
        one_most (any_argument xs),
        number_long (nodes_in ns),
        nodes_entries ns,
      ))
  node_entries (import_decl sp type_only phase side_effect x a) = simp length-append (omega (arith, span_long sp, quoted_long x, attributes_entries a))
  node_entries (named_export sp type_only) = omega arith
  node_entries (export_from sp type_only x a) = simp length-append (omega (arith, span_long sp, quoted_long x, attributes_entries a))
  node_entries (export_all sp type_only x a) = simp length-append (omega (arith, span_long sp, quoted_long x, attributes_entries a))
  node_entries (import_type sp x ns a) =
      simp length-append (omega (arith, span_long sp, quoted_long x, number_long (nodes_in ns), nodes_entries ns, attributes_entries a))
  node_entries (import_equals sp) = omega arith
  node_entries (import_require sp type_only export x) = simp length-append (omega (arith, span_long sp, quoted_long x))
  node_entries (module_decl sp x ns) =
      simp length-append (omega (arith, span_long sp, declared_long x, one_most (declares x), number_long (nodes_in ns), nodes_entries ns))

  nodes_entries : (ns : Nodes) → entry_bytes * walk_all counting ns ≤ length (encode_nodes ns)
  nodes_entries none = omega arith
  nodes_entries (more n ns) = simp length-append (omega (arith, node_entries n, nodes_entries ns))

  -- an argument has a flag and a span of its own
  arguments_entries : (xs : Arguments) → entry_bytes * walk_of counting xs + 3 * one (any_argument xs) ≤ length (encode_arguments xs)
  arguments_entries no_arguments = omega arith
  arguments_entries (argument dots sp n xs) = simp length-append (omega (arith, span_long sp, node_entries n, arguments_entries xs))

  properties_entries : (ps : Properties) → entry_bytes * walk_in counting ps ≤ length (encode_properties ps)
  properties_entries no_properties = omega arith
  properties_entries (spread n ps) = simp length-append (omega (arith, node_entries n, properties_entries ps))
  properties_entries (other_property n ps) = simp length-append (omega (arith, node_entries n, properties_entries ps))
  properties_entries (child_key k v ps) = simp length-append (omega (arith, node_entries k, node_entries v, properties_entries ps))
  properties_entries (string_key k v ps) = simp length-append (omega (arith, node_entries v, properties_entries ps))
  properties_entries (name_key k v ps) = simp length-append (omega (arith, node_entries v, properties_entries ps))

  -- the flag is a byte of its own
  attributes_entries : (a : Attributes) → 1 + entry_bytes * walk_with counting a ≤ length (encode_attributes a)
  attributes_entries without = omega arith
  attributes_entries (with_object sp ps) = simp length-append (omega (arith, properties_entries ps))

pub entry_bytes_lem : {s : List ℕ} {t : Sheet} → SheetOf s t → entry_bytes * entries t.root ≤ length s
unfolding encode_sheet
entry_bytes_lem {t} h = rw (← h.encodes.bytes) (simp length-append (omega (arith, node_entries t.root)))

pub few_entries : {s : List ℕ} {t : Sheet} → SheetOf s t → entries t.root ≤ entry_limit
few_entries h = omega (arith, entry_bytes_lem h, ap length h.encodes.bytes, h.encodes.within.bytes)
