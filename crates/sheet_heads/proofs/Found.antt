-- What is left behind a head, a piece and a node is what the bytes end with, and a text that a head or a piece holds stands in them.
use Rattle.laws.proofs.Prelude.{◌≡◌, refl, ap, ◌∙◌, Bool, List, [], ◌∷◌, Option, ℕ, ◌-◌, eqb, ltb, arith, get_or}
use Rattle.std.specs.Prelude.{None, Some, option_map}
use Rattle.laws.specs.Decoded.{Decoder, ◌>>=◌, return}
use Rattle.laws.proofs.{Among.end_further, Decoding.then_ok}
use Rattle.laws.proofs.Found.{Leaves, Finds, ends, then, made, changed, built, test, either, done, next, at_index}
use Rattle.text.specs.declared.utf8.Encoding.TheVariants.{Utf8, Wtf8}
use Rattle.wire.specs.{Fields.value_of, Number.number, Optional.optional, Text.text}
use Rattle.wire.proofs.Kept.{two, below_kept, numbered_kept, flag_kept, number_kept, count_kept}
use Rattle.wire.proofs.Found.{fields_leave, text_found}
use Rattle.sheet.specs.{Limits.text_limit, Limits.property_limit, Names.import_phases, declared.fields.Span.Span, Tree.Quoted, Tree.Pieces}
use Rattle.sheet.specs.Nodes.{text_behind, quoted, piece, property_item, node}
use Rattle.sheet.specs.{Quotation.looks_quoted, Comments.slice}
use Rattle.sheet.proofs.Kept.{span_kept, tag_kept, property_kept, node_kept}
use Rattle.sheet_heads.specs.code.Head.{Head, other_head, string_head, name_head, template_head, binary_head, object_head, import_call_head, call_head}
use Rattle.sheet_heads.specs.code.Head.{import_head, named_export_head, export_from_head, export_all_head, import_type_head, import_equals_head}
use Rattle.sheet_heads.specs.code.Head.{import_require_head, module_head, call_start, specifier_start, import_start, named_export_start}
use Rattle.sheet_heads.specs.code.Head.{export_all_start, import_type_start, import_require_start, import_equals_start, module_start, start, head}
use Rattle.sheet_heads.specs.code.Parts.{PropertyHead, string_key_head, name_key_head, key_head, property_head, argument_head, attributes_head}

-- the text of a head, that of a String that the node holds too, and the key of a property
abbrev pub text_of : Head → Option (List ℕ)
text_of (string_head x) = Some x
text_of (name_head x) = Some x
text_of (import_head type_only phase side_effect x has_object) = Some x.text
text_of (export_from_head type_only x has_object) = Some x.text
text_of (export_all_head type_only x has_object) = Some x.text
text_of (import_type_head x n) = Some x.text
text_of (import_require_head type_only export x) = Some x.text
text_of (module_head x n) = option_map (λ x. x.text) x
text_of _ = None

abbrev pub key_of : PropertyHead → Option (List ℕ)
key_of (string_key_head x) = Some x
key_of (name_key_head x) = Some x
key_of _ = None

a_text : Finds Some (text Wtf8 text_limit)
a_text = text_found Wtf8 text_limit (omega arith)

a_name : Finds Some (text Utf8 text_limit)
a_name = text_found Utf8 text_limit (omega arith)

a_number : Leaves number
a_number = number_kept fields_leave.kept two fields_leave.a_byte

-- what is built of a value and of one behind it holds the text of the first
module _ {A B C : Type 0} {held : A → Option (List ℕ)} {inner : B → Option (List ℕ)} {d : Decoder B} {e : B → Decoder C} where
  followed : (f : B → C → A) → Finds inner d → ((b : B) → Leaves (e b)) → ((b : B) (c : C) → held (f b c) ≡ inner b)
      → Finds held (d >>= λ b. e b >>= λ c. return (f b c))
  followed f p rest same =
      record {
        left = λ s {t = t} h.
            let (b, u, x, y) = then_ok (d s) (λ b. e b >>= λ c. return (f b c)) h in
            let (c, v, z, is) = then_ok (e b u) (λ c. return (f b c)) y in
            let last : v ≡ t = cc in
            end_further (p.left s x) (rw last at ((rest b).left u z));
        found = λ s {a} h.
            let (b, u, x, y) = then_ok (d s) (λ b. e b >>= λ c. return (f b c)) h in
            let (c, v, z, is) = then_ok (e b u) (λ c. return (f b c)) y in
            let whole : a ≡ f b c = cc in
            rw (ap held whole ∙ same b c) (p.found s x);
      }

module _ (source : List ℕ) (levels : ℕ) where
  quoted_found : Finds (λ (x : Quoted). Some x.text) (quoted source levels)
  unfolding quoted text_behind
  quoted_found =
      then (tag_kept fields_leave (eqb 1) levels) (λ t. then (span_kept fields_leave source) (λ sp.
      built {inner = Some} (λ x. record { span = sp; text = x }) (test (looks_quoted (slice source sp)) 13 a_text) (λ x. refl)))

  specifier_found : Finds (λ (p : Quoted × Bool). Some p.0.text) (specifier_start source levels)
  unfolding specifier_start
  specifier_found = followed (λ x has_object. (x, has_object)) quoted_found (λ x. flag_kept fields_leave) (λ x has_object. refl)

  with_specifier : (h : Quoted → Bool → Head) → ((x : Quoted) (b : Bool) → text_of (h x b) ≡ Some x.text)
      → Finds text_of (specifier_start source levels >>= λ p. return (h p.0 p.1))
  with_specifier h same = built (λ p. h p.0 p.1) specifier_found (λ p. same p.0 p.1)

  name_found : Finds (option_map (λ (x : Quoted). x.text)) (optional (quoted source levels))
  unfolding optional
  name_found = then (flag_kept fields_leave) (λ there. either there (changed Some quoted_found (λ x. refl)) (ends None refl))

  start_found : (sp : Span) (t : ℕ) → Finds text_of (start source levels sp t)
  unfolding start text_behind call_start import_start named_export_start export_all_start import_type_start import_equals_start import_require_start
      module_start
  start_found sp t =
      let flag_first = flag_kept fields_leave in
      at_index
      (next (made other_head a_number (λ n. refl))
      (next (changed {inner = Some} string_head (test (looks_quoted (slice source sp)) 13 a_text) (λ x. refl))
      (next (changed {inner = Some} name_head a_name (λ x. refl))
      (next (made template_head a_number (λ n. refl))
      (next (made binary_head flag_first (λ plus. refl))
      (next (made object_head (count_kept fields_leave property_limit) (λ n. refl))
      (next (then (below_kept fields_leave 4) (λ callee.
      either (ltb callee 3) (ends (import_call_head (value_of import_phases callee)) refl) (ends call_head refl)))
      (next (then flag_first (λ type_only. then (numbered_kept fields_leave import_phases) (λ phase. then flag_first (λ side_effect.
      with_specifier (import_head type_only phase side_effect) (λ x b. refl)))))
      (next (then flag_first (λ type_only. then flag_first (λ named.
      either named (with_specifier (export_from_head type_only) (λ x b. refl)) (ends (named_export_head type_only) refl))))
      (next (then flag_first (λ type_only. with_specifier (export_all_head type_only) (λ x b. refl)))
      (next (followed import_type_head quoted_found (λ x. a_number) (λ x n. refl))
      (next (then flag_first (λ external. either external
      (then flag_first (λ type_only. then flag_first (λ export. built (import_require_head type_only export) quoted_found (λ x. refl))))
      (ends import_equals_head refl)))
      (next (followed module_head name_found (λ x. a_number) (λ x n. refl)) done)))))))))))))
      t 3

-- a head
pub head_found : (source : List ℕ) (levels : ℕ) → Finds (λ (p : Span × Head). text_of p.1) (head source levels)
unfolding head
head_found source levels =
    then (tag_kept fields_leave _ levels) (λ t. then (span_kept fields_leave source) (λ sp.
    built (λ h. (sp, h)) (start_found source (levels - 1) sp t) (λ h. refl)))

-- a piece, by what it adds to none
abbrev pub added_text : (Pieces → Pieces) → Option (List ℕ)
added_text add = get_or (add []) 0 None

pub piece_found : Finds added_text piece
unfolding piece optional
piece_found = built {inner = λ x. x} (λ x. x ∷◌)
    (then (flag_kept fields_leave) (λ there. either there (changed {inner = Some} Some a_text (λ x. refl)) (ends None refl)))
    (λ x. refl)

-- a property up to its first node
pub property_found : Finds key_of property_head
unfolding property_head key_head
property_found =
    then fields_leave.a_byte (λ kind.
    at_index
    (next (ends _ refl)
    (next (ends _ refl)
    (next (then fields_leave.a_byte (λ key.
    at_index
    (next (ends _ refl) (next (changed string_key_head a_text (λ x. refl)) (next (changed name_key_head a_name (λ x. refl)) done)))
    key 3)) done)))
    kind 3)

-- the others
module _ (source : List ℕ) where
  open fields_leave.kept use {ends as ends_left, then as then_left}

  pub argument_left : Leaves (argument_head source)
  unfolding argument_head
  argument_left = then_left (flag_kept fields_leave) (λ dots. then_left (span_kept fields_leave source) (λ sp. ends_left _))

  pub attributes_left : (levels : ℕ) → Leaves (attributes_head source levels)
  unfolding attributes_head
  attributes_left levels =
      then_left (tag_kept fields_leave (eqb 5) levels) (λ t. then_left (span_kept fields_leave source) (λ sp.
      then_left (count_kept fields_leave property_limit) (λ n. ends_left _)))

  pub property_left : (levels : ℕ) → Leaves (property_item (node source levels))
  property_left levels = property_kept fields_leave (node_kept fields_leave source levels)
