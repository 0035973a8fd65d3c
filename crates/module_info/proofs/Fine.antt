-- The entries of a node within the limits can be written, and their texts are well-formed.
use Rattle.std.specs.Prelude.{Some, None}
use Rattle.laws.proofs.Prelude.{◌≡◌, refl, Bool, true, false, cond, List, [], ◌∷◌, map, flat_map, Memᴰ, Option, ℕ, ◌+◌, ◌≤◌, arith, length, length-append}
use Rattle.laws.specs.Codec.{All, IfThere}
use Rattle.laws.proofs.Lists.{all_member, all_append, of_members}
use Rattle.text.specs.declared.utf8.Encoding.TheVariants.{Utf8, Wtf8}
use Rattle.text.specs.Lossy.{exact, lossy, reported}
use Rattle.text.proofs.{Replaced.lossy_length, Replaced.exact_lossy, Reported.lossy_of}
use Rattle.wire.specs.{Text.encode_text, Optional.encode_optional}
use Rattle.sheet.specs.Limits.{sheet_limit, source_limit, text_limit, depth_limit}
use Rattle.sheet.specs.{declared.fields.Span.Span, Reached.Walked, Reached.own_visit}
use Rattle.sheet.specs.Tree.{Quoted, Pieces, Node, other, string, name, template, binary, object, import_call, call, import_decl, named_export, export_from}
use Rattle.sheet.specs.Tree.{export_all, import_type, import_equals, import_require, module_decl, Arguments, no_arguments, argument, Properties, no_properties}
use Rattle.sheet.specs.Tree.{spread, other_property, child_key, string_key, name_key, Attributes, with_object}
use Rattle.sheet.specs.Shape.{Shape, text, named, pieces, operation, properties, anything, shape, is_require, is_augmentation}
use Rattle.sheet.specs.Walk.{Visit, Callee, called, importing, expression}
use Rattle.sheet_codec.specs.Encode.{properties_in, encode_node, encode_arguments}
use Rattle.sheet_codec.specs.Limits.{TextFits, QuotedFits, under, NodeFits, ArgumentsFit, PropertiesFit, AttributesFit}
use Rattle.report.specs.declared.names.{StaticDependencyKind.StaticDependencyKind, DynamicDependencyKind.DynamicDependencyKind}
use Rattle.report.specs.declared.names.StaticDependencyKind.TheVariants as statics
use Rattle.report.specs.declared.names.DynamicDependencyKind.TheVariants as dynamics
use Rattle.report.specs.ModuleInfo.{SpecifierWithRange, ImportAttribute, KeyValue, ImportAttributes, none, unknown, known, DynamicTemplatePart}
use Rattle.report.specs.ModuleInfo.{DynamicArgument, DependencyDescriptor}
use Rattle.report.specs.ModuleInfo as info
use Rattle.report.specs.Texts.{Reports, PairTexts, AttributeTexts, ArgumentTexts, DependencyTexts, SpecifierText}
use Rattle.report.specs.Valid.{Short, ValidSpecifier, ValidAttributes, ValidArgument, ValidDependency}
use Rattle.report.proofs.{Ranges.range_valid, RangesApart.range_at, Stands.Good}
use Rattle.attributes.specs.Attributes.{Prop, keyless, keyed, props}
use Rattle.attributes.specs.Right.{Value, PairsOf, StaticOf, ObjectOf, TypeOf, Holds, SecondOf, DynamicOf}
use Rattle.attributes.proofs.ReadingsRight.{last_among, pairs_few, static_right, type_right, dynamic_right}
use Rattle.arguments.specs.Argument.{piece_parts, template_parts, of_pieces, operand, appended, chain, of_chain, of_shape, argument_of}
use Rattle.dep_entries.specs.Entries.{import_kind, export_kind, equals_kind, dynamic_kind, static_entry, call_entry, module_entry}
use Rattle.dep.{specs.Collect.entry_of, proofs.EntryAttributes.all_if}
use Rattle.dep.specs.InTurn.{Specifies, Argues, Worded}
use Rattle.module_info.proofs.Inside.{walked_fits, walked_bytes}

-- ---- texts

abbrev pub Text : List ℕ → Type 0
Text = TextFits Utf8 source_limit

reports : {x : List ℕ} → TextFits Wtf8 text_limit x → Reports x (lossy x)
reports (l, (points, t)) = record { points = points; read = t; given = (lossy_of t).text }

lossy_text : {x : List ℕ} → TextFits Wtf8 text_limit x → Text (lossy x)
lossy_text {x} (l, (points, t)) = (omega (arith, lossy_length x), (map reported points, (lossy_of t).text))

exact_text : {x : List ℕ} → TextFits Wtf8 text_limit x → exact x ≡ true → Text x
exact_text {x} f e = rw (exact_lossy x e) at (lossy_text f)

short_text_lem : {x : List ℕ} → Text x → Short x
short_text_lem t = omega (arith, t.0)

short_there : (o : Option (List ℕ)) → IfThere Text o → IfThere Short o
short_there None t = tt
short_there (Some x) t = short_text_lem t

-- a specifier that may be there
pub good_valid : (o : Option SpecifierWithRange) → IfThere Good o → IfThere ValidSpecifier o
good_valid None g = tt
good_valid (Some x) g = g.valid

pub good_text : (o : Option SpecifierWithRange) → IfThere Good o → IfThere (SpecifierText Text) o
good_text None g = tt
good_text (Some x) g = g.text

-- a dependency that can be written, with what is said of its text
pub record Fine (Says : DependencyDescriptor → Type 0) (d : DependencyDescriptor) : Type 0 where
  pub valid : ValidDependency d
  pub texts : DependencyTexts Text d
  pub worded : Says d

-- ---- attributes

module _ (source : List ℕ) where
  -- what is known of a value
  abbrev ShapeFits : Shape → Type 0
  ShapeFits (text x) = TextFits Wtf8 text_limit x
  ShapeFits (named x) = Unit {0}
  ShapeFits (pieces ps) = Unit {0}
  ShapeFits (operation plus l r) = Unit {0}
  ShapeFits (properties ps) = (k : ℕ) × (properties_in ps ≤ 64) × PropertiesFit source ps k
  ShapeFits anything = Unit {0}

  shape_fits : (k : ℕ) (n : Node) → NodeFits source n k → ShapeFits (shape n)
  unfolding NodeFits
  shape_fits k (other sp ns) f = tt
  shape_fits k (string sp x) f = f.text
  shape_fits k (name sp x) f = tt
  shape_fits k (template sp ps ns) f = tt
  shape_fits k (binary sp plus l r) f = tt
  shape_fits k (object sp ps) f = (under k, f.1.0, f.1.1)
  shape_fits k (import_call sp phase xs ns) f = tt
  shape_fits k (call sp e xs ns) f = tt
  shape_fits k (import_decl sp type_only phase side_effect x a) f = tt
  shape_fits k (named_export sp type_only) f = tt
  shape_fits k (export_from sp type_only x a) f = tt
  shape_fits k (export_all sp type_only x a) f = tt
  shape_fits k (import_type sp x ns a) f = tt
  shape_fits k (import_equals sp) f = tt
  shape_fits k (import_require sp type_only export x) f = tt
  shape_fits k (module_decl sp x ns) f = tt

  -- and of a property
  abbrev PropFits : Prop → Type 0
  PropFits keyless = Unit {0}
  PropFits (keyed k v) = Text k × ShapeFits v

  props_fit : (k : ℕ) (ps : Properties) → PropertiesFit source ps k → All PropFits (props ps)
  unfolding PropertiesFit props
  props_fit k no_properties f = tt
  props_fit k (spread n ps) f = (tt, props_fit k ps f.1)
  props_fit k (other_property n ps) f = (tt, props_fit k ps f.1)
  props_fit k (child_key q v ps) f = (tt, props_fit k ps f.1)
  props_fit k (string_key q v ps) f = (by_key (exact q) refl, props_fit k ps f.1)
    where
      by_key : (b : Bool) → exact q ≡ b → PropFits (cond b (keyed q (shape v)) keyless)
      by_key true e = (exact_text f.0.0 e, shape_fits k v f.0.1)
      by_key false e = tt
  props_fit k (name_key q v ps) f = (((omega (arith, f.0.0.0), f.0.0.1), shape_fits k v f.0.1), props_fit k ps f.1)

  props_count : (ps : Properties) → length (props ps) ≡ properties_in ps
  unfolding props
  props_count no_properties = refl
  props_count (spread n ps) = rw (props_count ps)
  props_count (other_property n ps) = rw (props_count ps)
  props_count (child_key k v ps) = rw (props_count ps)
  props_count (string_key k v ps) = rw (props_count ps)
  props_count (name_key k v ps) = rw (props_count ps)

  value_text : (v : Shape) (o : ImportAttribute) → Value v o → ShapeFits v → IfThere Text o
  value_text v None is f = tt
  value_text v (Some x) (e, i) f = let g : TextFits Wtf8 text_limit x = rw e at f in exact_text g i

  record FineAttributes (a : ImportAttributes) : Type 0 where
    valid : ValidAttributes a
    texts : AttributeTexts Text a

  pairs_fine : {Counts : Shape → Type 0} (ps : Properties) {l : List KeyValue} → ShapeFits (properties ps) → PairsOf Counts (props ps) l →
      FineAttributes (known l)
  pairs_fine ps {l} (k, n, f) p = record {
    valid = (
      omega (arith, pairs_few p, props_count ps),
      of_members _ l (λ a i. let (x, y) = pair a i in record { key = short_text_lem x; value = short_there a.value y }),
    );
    texts = of_members _ l pair;
  }
    where
      pair : (a : KeyValue) → Memᴰ a l → PairTexts Text a
      pair a i =
          let (v, last, is) = (p.each a).0 i in
          let (x, y) = all_member PropFits (props ps) (props_fit k ps f) (last_among last) in
          (x, value_text v a.value is y)

  fine_none : FineAttributes none
  fine_none = record { valid = tt; texts = tt }

  fine_unknown : FineAttributes unknown
  fine_unknown = record { valid = tt; texts = tt }

  object_fine : (ps : Properties) {x : ImportAttributes} → ShapeFits (properties ps) → ObjectOf (props ps) x → FineAttributes x
  object_fine ps f (ObjectOf.unreadable i) = fine_unknown
  object_fine ps f (ObjectOf.pairs n p) = pairs_fine ps f p

  with_object_lem : (k : ℕ) (sp : Span) (ps : Properties) → AttributesFit source (with_object sp ps) k → ShapeFits (properties ps)
  unfolding AttributesFit
  with_object_lem k sp ps f = (under k, f.1.0, f.1.1)

  static_fine : (k : ℕ) {a : Attributes} {x : ImportAttributes} → AttributesFit source a k → StaticOf a x → FineAttributes x
  static_fine k f StaticOf.no_object = fine_none
  static_fine k f (StaticOf.pairs {sp = sp} {ps = ps} p) = pairs_fine ps (with_object_lem k sp ps f) p

  type_fine : (k : ℕ) {a : Attributes} {x : ImportAttributes} → AttributesFit source a k → TypeOf a x → FineAttributes x
  type_fine k f TypeOf.no_object = fine_none
  type_fine k f (TypeOf.object {sp = sp} {ps = ps} o) = object_fine ps (with_object_lem k sp ps f) o

  holds_fine : {v : Shape} {x : ImportAttributes} → ShapeFits v → Holds v x → FineAttributes x
  holds_fine f (Holds.object {ps = ps} e o) = object_fine ps (rw e at f) o
  holds_fine f (Holds.other n) = fine_unknown

  second_fine : (ps : Properties) {x : ImportAttributes} → ShapeFits (properties ps) → SecondOf (props ps) x → FineAttributes x
  second_fine ps f (SecondOf.unreadable i) = fine_unknown
  second_fine ps f (SecondOf.unknown_value c h) = fine_unknown
  second_fine ps f (SecondOf.neither r n m) = fine_none
  second_fine ps (k, n, f) (SecondOf.last_with r l h) = holds_fine (all_member PropFits (props ps) (props_fit k ps f) (last_among l)).1 h
  second_fine ps (k, n, f) (SecondOf.last_assert r m l h) = holds_fine (all_member PropFits (props ps) (props_fit k ps f) (last_among l)).1 h

  dynamic_fine : (k : ℕ) {xs : Arguments} {x : ImportAttributes} → ArgumentsFit source xs k → DynamicOf xs x → FineAttributes x
  unfolding ArgumentsFit
  dynamic_fine k f DynamicOf.no_second = fine_none
  dynamic_fine k f (DynamicOf.spread e) = fine_unknown
  dynamic_fine k f (DynamicOf.no_object m) = fine_unknown
  dynamic_fine k f (DynamicOf.object {n = n} {ps = ps} d e s) = second_fine ps (rw e at (shape_fits k n f.0.1)) s

  -- ---- arguments

  record FineArgument (a : DynamicArgument) : Type 0 where
    valid : ValidArgument a
    texts : ArgumentTexts Text a

  fine_expr : FineArgument info.expr
  fine_expr = record { valid = tt; texts = tt }

  fine_string : {x : List ℕ} → TextFits Wtf8 text_limit x → FineArgument (info.string (lossy x))
  fine_string f = record { valid = short_text_lem (lossy_text f); texts = lossy_text f }

  fine_template : {l : List DynamicTemplatePart} → length l ≤ 131072 → All (IfThere Text) l → FineArgument (info.template l)
  fine_template {l} n a = record { valid = (omega arith, of_members _ l (λ o i. short_there o (all_member _ l a i))); texts = a }

  abbrev PieceFits : Option (List ℕ) → Type 0
  PieceFits = IfThere (TextFits Wtf8 text_limit)

  piece_texts : (p : Option (List ℕ)) → PieceFits p → (length (piece_parts p) ≤ 1) × All (IfThere Text) (piece_parts p)
  piece_texts None f = (omega arith, tt)
  piece_texts (Some []) f = (omega arith, tt)
  piece_texts (Some (b ∷ x)) f = (omega arith, (lossy_text f, tt))

  parts_texts : (ps : Pieces) → All PieceFits ps → (length (template_parts ps) ≤ length ps + length ps) × All (IfThere Text) (template_parts ps)
  parts_texts [] f = (omega arith, tt)
  parts_texts (p ∷ []) f = let (n, a) = piece_texts p f.0 in (omega arith, a)
  parts_texts (p ∷ q ∷ ps) f =
      let (n, a) = piece_texts p f.0 in
      let (m, b) = parts_texts (q ∷ ps) f.1 in
      (simp length-append (omega arith), all_append _ (piece_parts p) (None ∷ template_parts (q ∷ ps)) a (tt, b))

  pieces_fine : (ps : Pieces) → All PieceFits ps → length ps ≤ sheet_limit → FineArgument (of_pieces ps)
  pieces_fine [] f n = fine_expr
  pieces_fine (None ∷ []) f n = fine_expr
  pieces_fine (Some x ∷ []) f n = fine_string f.0
  pieces_fine (p ∷ q ∷ ps) f n = let (m, a) = parts_texts (p ∷ q ∷ ps) f in fine_template (omega arith) a

  -- a piece takes a byte at least
  pieces_bytes : (ps : Pieces) → length ps ≤ length (flat_map (encode_optional encode_text) ps)
  unfolding flat_map encode_optional
  pieces_bytes [] = omega arith
  pieces_bytes (None ∷ ps) = omega (arith, pieces_bytes ps)
  pieces_bytes (Some x ∷ ps) = simp length-append (omega (arith, pieces_bytes ps))

  abbrev ChainFine : Node → Type 0
  ChainFine n = IfThere (λ l. (length l ≤ length (encode_node n)) × All (IfThere Text) l) (chain n)

  operand_text : (v : Shape) → ShapeFits v → IfThere Text (operand v)
  operand_text (text x) f = lossy_text f
  operand_text (named x) f = tt
  operand_text (pieces ps) f = tt
  operand_text (operation plus l r) f = tt
  operand_text (properties ps) f = tt
  operand_text anything f = tt

  chain_fine : (k : ℕ) (n : Node) → NodeFits source n k → ChainFine n
  unfolding NodeFits chain encode_node
  chain_fine k (other sp ns) f = tt
  chain_fine k (string sp x) f = (omega arith, (lossy_text f.text, tt))
  chain_fine k (name sp x) f = tt
  chain_fine k (template sp ps ns) f = tt
  chain_fine k (binary sp plus l r) f = by_plus plus (chain l) (chain_fine (under k) l f.1.0)
    where
      by_plus : (b : Bool) (o : Option (List DynamicTemplatePart)) → IfThere (λ p. (length p ≤ length (encode_node l)) × All (IfThere Text) p) o
          → IfThere (λ p. (length p ≤ length (encode_node (binary sp plus l r))) × All (IfThere Text) p) (cond b (appended o (operand (shape r))) None)
      by_plus false o h = tt
      by_plus true None h = tt
      by_plus true (Some p) (n, a) =
          (simp length-append (omega arith), all_append _ p (operand (shape r) ∷ []) a (operand_text (shape r) (shape_fits (under k) r f.1.1), tt))
  chain_fine k (object sp ps) f = tt
  chain_fine k (import_call sp phase xs ns) f = tt
  chain_fine k (call sp e xs ns) f = tt
  chain_fine k (import_decl sp type_only phase side_effect x a) f = tt
  chain_fine k (named_export sp type_only) f = tt
  chain_fine k (export_from sp type_only x a) f = tt
  chain_fine k (export_all sp type_only x a) f = tt
  chain_fine k (import_type sp x ns a) f = tt
  chain_fine k (import_equals sp) f = tt
  chain_fine k (import_require sp type_only export x) f = tt
  chain_fine k (module_decl sp x ns) f = tt

  argument_fine : (k : ℕ) (n : Node) → NodeFits source n k → length (encode_node n) ≤ sheet_limit → FineArgument (argument_of n)
  unfolding argument_of NodeFits encode_node
  argument_fine k (other sp ns) f h = fine_expr
  argument_fine k (string sp x) f h = fine_string f.text
  argument_fine k (name sp x) f h = fine_expr
  argument_fine k (template sp ps ns) f h = let g = simp length-append at h in pieces_fine ps f.1.0.1 (omega (arith, pieces_bytes ps))
  argument_fine k (binary sp plus l r) f h = by_chain (chain (binary sp plus l r)) (chain_fine k (binary sp plus l r) f)
    where
      by_chain : (o : Option (List DynamicTemplatePart)) → IfThere (λ p. (length p ≤ length (encode_node (binary sp plus l r))) × All (IfThere Text) p) o →
          FineArgument (of_chain o)
      by_chain None c = fine_expr
      by_chain (Some p) (n, a) = fine_template (omega arith) a
  argument_fine k (object sp ps) f h = fine_expr
  argument_fine k (import_call sp phase xs ns) f h = fine_expr
  argument_fine k (call sp e xs ns) f h = fine_expr
  argument_fine k (import_decl sp type_only phase side_effect x a) f h = fine_expr
  argument_fine k (named_export sp type_only) f h = fine_expr
  argument_fine k (export_from sp type_only x a) f h = fine_expr
  argument_fine k (export_all sp type_only x a) f h = fine_expr
  argument_fine k (import_type sp x ns a) f h = fine_expr
  argument_fine k (import_equals sp) f h = fine_expr
  argument_fine k (import_require sp type_only export x) f h = fine_expr
  argument_fine k (module_decl sp x ns) f h = fine_expr

  -- ---- entries

  argues : (v : Shape) → ShapeFits v → (parts : Option (List DynamicTemplatePart)) → Argues v (of_shape v parts)
  argues (text x) f parts = (lossy x, refl, reports f)
  argues (named x) f parts = tt
  argues (pieces ps) f parts = tt
  argues (operation plus l r) f parts = tt
  argues (properties ps) f parts = tt
  argues anything f parts = tt

  module _ (short : length source ≤ source_limit) (types : ℕ → Option SpecifierWithRange) (typed : (start : ℕ) → IfThere Good (types start)) where
    static_entry_lem : (kind : StaticDependencyKind) (sp : Span) (k : ℕ) {x : Quoted} → QuotedFits source k x → (side_effect : Bool) {a : ImportAttributes} →
        FineAttributes a
        → Fine (Specifies source x) (static_entry source types kind sp x side_effect a)
    unfolding static_entry
    static_entry_lem kind sp k {x} q side_effect a = record {
      valid = record {
        types_specifier = good_valid (types sp.start) (typed sp.start);
        specifier = record { text = short_text_lem (lossy_text q.text); range = range_valid source x.span (omega arith) };
        import_attributes = a.valid;
      };
      texts = (good_text (types sp.start) (typed sp.start), (lossy_text q.text, a.texts));
      worded =
          record { text = reports q.text; stands = record { range = range_at q.place.span.start q.place.span.end refl; text = q.quotation } };
    }

    call_entry_lem : (kind : DynamicDependencyKind) (sp : Span) (e : Callee) (xs : Arguments) (k : ℕ) → ArgumentsFit source xs k →
        length (encode_arguments xs) ≤ sheet_limit
        → All (Fine (Worded source (called sp e xs))) (call_entry source types kind sp xs)
    unfolding call_entry ArgumentsFit encode_arguments argument_of
    call_entry_lem kind sp e no_arguments k f h = tt
    call_entry_lem kind sp e (argument dots at n xs) k f h =
        let g = simp length-append at h in
        let x = argument_fine k n f.0.1 (omega arith) in
        let a = dynamic_fine k f.1 (dynamic_right xs) in (
          record {
            valid = record {
              types_specifier = good_valid (types sp.start) (typed sp.start);
              argument = x.valid;
              argument_range = range_valid source at (omega arith);
              import_attributes = a.valid;
            };
            texts = (good_text (types sp.start) (typed sp.start), (x.texts, a.texts));
            worded = argues (shape n) (shape_fits k n f.0.1) (chain n);
          },
          tt,
        )

    -- the entries of a node's own visit
    abbrev OwnFine : Option Visit → Type 0
    OwnFine None = Unit {0}
    OwnFine (Some v) = All (Fine (Worded source v)) (entry_of source types v)

    own_fine : (k : ℕ) (n : Node) → NodeFits source n k → length (encode_node n) ≤ sheet_limit → OwnFine (own_visit n)
    unfolding NodeFits encode_node module_entry
    own_fine k (other sp ns) f h = tt
    own_fine k (string sp x) f h = tt
    own_fine k (name sp x) f h = tt
    own_fine k (template sp ps ns) f h = tt
    own_fine k (binary sp plus l r) f h = tt
    own_fine k (object sp ps) f h = tt
    own_fine k (import_call sp phase xs ns) f h =
        let g = simp length-append at h in call_entry_lem (dynamic_kind phase) sp (importing phase) xs (under k) f.1.0.1 (omega arith)
    own_fine k (call sp e xs ns) f h =
        let g = simp length-append at h in all_if _ (is_require (shape e)) (call_entry source types dynamics.Require sp xs)
        (call_entry_lem dynamics.Require sp (expression e) xs (under k) f.1.1.0.1 (omega arith))
    own_fine k (import_decl sp type_only phase side_effect x a) f h =
        (static_entry_lem (import_kind type_only phase) sp (under k) f.1.0 side_effect (static_fine (under k) f.1.1 (static_right a)), tt)
    own_fine k (named_export sp type_only) f h = tt
    own_fine k (export_from sp type_only x a) f h =
        (static_entry_lem (export_kind type_only) sp (under k) f.1.0 false (static_fine (under k) f.1.1 (static_right a)), tt)
    own_fine k (export_all sp type_only x a) f h =
        (static_entry_lem (export_kind type_only) sp (under k) f.1.0 false (static_fine (under k) f.1.1 (static_right a)), tt)
    own_fine k (import_type sp x ns a) f h =
        (static_entry_lem statics.ImportType sp (under k) f.1.0 false (type_fine (under k) f.1.1.1.1 (type_right a)), tt)
    own_fine k (import_equals sp) f h = tt
    own_fine k (import_require sp type_only export x) f h = (static_entry_lem (equals_kind type_only export) sp (under k) f.1 false fine_none, tt)
    own_fine k (module_decl sp None ns) f h = tt
    own_fine k (module_decl sp (Some x) ns) f h = all_if _ (is_augmentation x.text)
        (static_entry source types statics.MaybeTsModuleAugmentation sp x false none ∷ [])
        (static_entry_lem statics.MaybeTsModuleAugmentation sp (under k) f.1.0 false fine_none, tt)

    -- the entry of a walked node's visit
    pub walked_fine : {root n : Node} {v : Visit} {d : DependencyDescriptor} → Walked root n → own_visit n ≡ Some v →
        NodeFits source root depth_limit → length (encode_node root) ≤ sheet_limit
        → entry_of source types v ≡ d ∷ [] → Fine (Worded source v) d
    walked_fine {n = n} {v = v} {d = d} w o f h e =
        let (k, g) = walked_fits source w 64 f in
        let own : OwnFine (Some v) = rw o at (own_fine k n g (omega (arith, walked_bytes w))) in
        let one : All (Fine (Worded source v)) (d ∷ []) = rw e at own in
        one.0
