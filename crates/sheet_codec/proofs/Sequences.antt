-- Fields one after the other: texts, spans, comments, groups, the program, and items that are counted.
use Rattle.std.specs.Prelude.{Some, None}
use Rattle.laws.proofs.Prelude.{◌≡◌, refl, sym, ap, ◌∙◌, Bool, true, false, cond, ◌&&◌, List, [], ◌∷◌, ◌++◌, Option, ℕ, zero, suc, ◌+◌, leb, ltb, length}
use Rattle.laws.specs.Decoded.{Decoder, on_ok, ◌>>=◌, return}
use Rattle.laws.proofs.Decoding.{then_then}
use Rattle.text.specs.declared.utf8.Encoding.{Encoding, TheVariants.Wtf8}
use Rattle.wire.specs.{Number.number, Optional.optional}
use Rattle.wire.specs.Text as wire
use Rattle.sheet.specs.{declared.fields.Span.Span, declared.groups.Group.Group, Quotation.looks_quoted, Program.program, Nodes.many, Nodes.text_behind}
use Rattle.sheet.specs.{Nodes.string_text}
use Rattle.sheet.specs.Fields as sheet
use Rattle.sheet.specs.Comments.{slice, marked, chained, comment, comments, end_of, group, groups, anywhere, may_follow}
use Rattle.sheet.proofs.EnumNumbers.{kind_numbers, side_numbers}
use Rattle.sheet_codec.specs.Field as field
use Rattle.sheet_codec.specs.Field.{Count, limit, Entry}
use Rattle.sheet_codec.specs.FieldsOf.{a_flag, text_fields, optional_fields, chain_fields, span_fields, comment_fields, group_fields, program_fields}
use Rattle.sheet_codec.specs.FieldsOf.{string_fields}
use Rattle.sheet_codec.proofs.Fields.{Judges, FieldsOf, Any, ends, same, has, with, map, then, last, then_tested}
use Rattle.sheet_codec.proofs.Leaves.{numbered_field, flag_field, bytes_field}
use Rattle.sheet_codec.proofs.Numbers.{free_field, count_field, group_count_field, start_field, end_field, string_end_lem, comment_start_lem, comment_end_lem}
use Rattle.sheet_codec.proofs.Numbers.{group_position_lem, after}

-- a text
pub text_fields_lem : (c : Count) (e : Encoding) → FieldsOf (wire.text e (limit c)) Any (text_fields c e)
unfolding wire.text
text_fields_lem c e = then (count_field c) (λ n u. has (bytes_field e n) (λ x l h. (tt, rw (h.1, h.0))))

-- a flag, and what follows it if it is 1
pub optional_fields_lem : {A : Type 0} {d : Decoder A} {fields : A → List Entry} → FieldsOf d Any fields → FieldsOf (optional d) Any (optional_fields fields)
unfolding optional
optional_fields_lem {A} {d} {fields} k = then flag_field (λ b u. by b)
  where
    by : (b : Bool) → Judges (cond b (λ s. on_ok (λ a. Some a) (d s)) (return None)) (λ x l. Unit {0} × (a_flag b ∷ l ≡ optional_fields fields x))
    by true = map k (λ a. Some a) (λ a l h. (tt, ap (a_flag true ∷◌) h.1))
    by false = ends None (tt, refl)

-- items, each judged by what the one before leaves, which some state stands for
module _ {A S Q : Type 0} (item : S → Decoder A) (leaves : A → S) (of : Q → S) (next : A → Q) (stands : (a : A) → leaves a ≡ of (next a))
    {fields : Q → A → List Entry} (k : (q : Q) → FieldsOf (item (of q)) Any (fields q)) where
  chained_more : (q : Q) (n : ℕ) → ((a : A) → FieldsOf (chained item leaves (of (next a)) n) (λ l. length l ≡ n) (chain_fields fields next (next a)))
      → FieldsOf (chained item leaves (of q) (suc n)) (λ l. length l ≡ suc n) (chain_fields fields next q)
  unfolding chained
  chained_more q n rest = then (k q) (λ a u. rw (stands a) (map (rest a) (a ∷◌) (λ l m h. (ap suc h.0, ap (fields q a ++◌) h.1))))

  pub chained_fields : (q : Q) (n : ℕ) → FieldsOf (chained item leaves (of q) n) (λ l. length l ≡ n) (chain_fields fields next q)
  unfolding chained
  chained_fields q zero = ends [] (refl, refl)
  chained_fields q (suc n) = chained_more q n (λ a. chained_fields (next a) n)

module _ (source : List ℕ) where
  pub span_fields_lem : FieldsOf (sheet.span source) Any (span_fields source)
  unfolding sheet.span
  span_fields_lem = then (start_field source) (λ start u. last (λ end. record { start = start; end = end }) (end_field source start) (λ end v. (tt, refl)))

  -- a String behind its tag, and what is made of its span and its text
  pub string_fields_lem : {B : Type 0} {Has : B → List Entry → Type 0} (of : Span → List ℕ → B) →
      ((sp : Span) (x : List ℕ) → Has (of sp x) (string_fields source sp x))
      → Judges (sheet.span source >>= λ sp. string_text source sp >>= λ x. return (of sp x)) Has
  unfolding sheet.span text_behind
  string_fields_lem of h =
      same (λ s. simp then_then)
      (then (start_field source) (λ start u.
      then_tested (sheet.end_from source start) (λ end. looks_quoted (slice source (record { start = start; end = end }))) 13 (string_end_lem source start)
      (λ end v.
      last (of (record { start = start; end = end })) (text_fields_lem field.text_length Wtf8) (λ x w. h (record { start = start; end = end }) x))))

  comment_fields_lem : (last : ℕ) → FieldsOf (comment source last) Any (comment_fields source last)
  unfolding comment
  comment_fields_lem last =
      then (numbered_field field.kind kind_numbers refl) (λ kind l.
      then_tested (sheet.position source) (leb last) 7 (comment_start_lem source last) (λ start u.
      then_tested (sheet.end_from source start) (λ end. marked kind (slice source (record { start = start; end = end }))) 7 (comment_end_lem source kind start)
      (λ end v. ends _ (tt, refl))))

  pub comments_fields : (n : ℕ) → FieldsOf (comments source 0 n) (λ cs. length cs ≡ n) (chain_fields (comment_fields source) end_of 0)
  comments_fields = chained_fields (comment source) end_of (λ last. last) end_of (λ c. refl) comment_fields_lem 0

  group_fields_lem : (total : ℕ) (last : Option Group) → FieldsOf (group source total (after last)) Any (group_fields source total last)
  unfolding group
  group_fields_lem total last =
      then (numbered_field field.side side_numbers refl) (λ side l.
      then_tested (sheet.position source) (after last side) 7 (group_position_lem source last side) (λ p u.
      then free_field (λ first v.
      then_tested number (λ n. ltb 0 n && leb (first + n) total) 7 (group_count_field total first) (λ n w. ends _ (tt, refl)))))

  pub groups_fields : (total m : ℕ)
      → FieldsOf (groups source total anywhere m) (λ gs. length gs ≡ m) (chain_fields (group_fields source total) (λ g. Some g) None)
  groups_fields total = chained_fields (group source total) may_follow after (λ g. Some g) (λ g. refl) (group_fields_lem total) None

  pub program_fields_lem : FieldsOf (program source) Any (program_fields source)
  unfolding program
  program_fields_lem =
      then flag_field (λ script a. then span_fields_lem (λ sp b. then flag_field (λ shebang c.
      last (λ first. record { script = script; span = sp; shebang = shebang; first = first }) (optional_fields_lem (start_field source))
      (λ first d. (tt, refl)))))

-- items that add to a list
module _ {L : Type 0} (size : L → ℕ) (fields : L → List Entry) where
  -- a function adds an item of these fields
  abbrev pub Adds : (L → L) → List Entry → Type 0
  Adds add e = (l : L) → (size (add l) ≡ suc (size l)) × (e ++ fields l ≡ fields (add l))

  pub many_fields : {end : L} {item : Decoder (L → L)} → (size end ≡ 0) × (fields end ≡ []) → Judges item Adds → (n : ℕ)
      → FieldsOf (many end item n) (λ l. size l ≡ n) fields
  unfolding many
  many_fields {end} none k zero = ends end (none.0, sym none.1)
  many_fields {end} none k (suc n) = with k (λ add e h. map (many_fields none k n) add (λ l m i. ((h l).0 ∙ ap suc i.0, ap (e ++◌) i.1 ∙ (h l).1)))
