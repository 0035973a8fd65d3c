-- What is judged at each field that is a number.
use Rattle.std.{specs.Prelude.Some, specs.Prelude.None, proofs.lemmas.Bool.false_from_ne_true}
use Rattle.laws.proofs.Prelude.{◌≡◌, refl, sym, ◌∙◌, Bool, true, false, ◌&&◌, true≢false, and-eq-true_iff, ◌⊎◌, inl, inr, ⊎_elim, List, [], ◌∷◌, ◌++◌}
use Rattle.laws.proofs.Prelude.{append-nil, Option, ℕ, zero, suc, ◌+◌, ◌≤◌, ◌<◌, arith, leb, ltb, leb-false, lt-leb, lt-ltb}
use Rattle.laws.specs.Decoded.{ok, no, Decoder, ◌>>=◌, ◌>>◌, return, require}
use Rattle.laws.proofs.Decoding.{refused, then_ok, then_refused, require_ok}
use Rattle.laws.proofs.Answers.{Answer, answers_kept}
use Rattle.text.{specs.Position.is_boundary, proofs.Boundary.is_boundary_iff}
use Rattle.wire.{specs.Fields.byte, specs.Number.largest, specs.Number.encode_number, specs.Text.count, proofs.Kept.number_kept}
use Rattle.wire.specs.Number as wire
use Rattle.wire.proofs.NumberCodec.{number_codec}
use Rattle.sheet.specs.{declared.groups.Group.Group, declared.names.CommentKind.CommentKind, declared.names.Side.Side, Fields.end_from, Quotation.looks_quoted}
use Rattle.sheet.specs.Fields as sheet
use Rattle.sheet.specs.Comments.{opening, closing, slice, marked, anywhere, may_follow}
use Rattle.sheet.proofs.{Marks.enclosed_sound, Marks.enclosed_complete, Quotations.looks_quoted_iff, Order.by_order, Order.in_order}
use Rattle.sheet_codec.specs.Field.{Count, limit, Position, start, end, string_end, comment_start, comment_end, group_position, Number, limited, free}
use Rattle.sheet_codec.specs.Field.{position, group_count, number}
use Rattle.sheet_codec.specs.Breaks.{Shows, Wrong, over, outside, reversed, string_reversed, comment_reversed, early, unmarked, disordered, empty}
use Rattle.sheet_codec.specs.Breaks.{beyond, unquoted, Breaks, no_number, wrong}
use Rattle.sheet_codec.specs.FieldsOf.{a_number}
use Rattle.sheet_codec.proofs.Fields.{FieldsOf, Any, field}

-- one number stands in front
shown : {u : List ℕ} {n : ℕ} (h : Shows u n) → wire.number u ≡ ok n h.rest
shown {n = n} h = rw h.bytes (number_codec.complete n h.small h.rest)

shows_one : {u : List ℕ} {n m : ℕ} → Shows u n → Shows u m → n ≡ m
shows_one h k = let i = shown h in let j = shown k in cc

-- a number is refused by 2 alone
number_two : (s : List ℕ) (r : ℕ) → wire.number s ≡ no r → r ≡ 2
unfolding byte
number_two s r e = rw e at ((number_kept (answers_kept {N = λ r. r ≡ 2}) refl (record { at = a_byte })).at s)
  where
    a_byte : (s : List ℕ) → Answer (λ (b : ℕ). Unit {0}) (λ r. r ≡ 2) (byte s)
    a_byte [] = refl
    a_byte (b ∷ s) = tt

-- a decoder of a number, and the refusals that a number meets
pub record RefusesBy (d : Decoder ℕ) (W : ℕ → ℕ → Type 0) : Type 0 where
  pub passes : (s : List ℕ) (n : ℕ) (u : List ℕ) → d s ≡ ok n u → (n ≤ largest) × (s ≡ encode_number n ++ u) × ((r : ℕ) → W n r → ⊥)
  pub refuses : (s : List ℕ) (r : ℕ) → d s ≡ no r
      → ((r ≡ 2) × ((n : ℕ) → Shows s n → ⊥)) ⊎ ((n : ℕ) × Shows s n × W n r × ((q : ℕ) → q < r → W n q → ⊥))

reads_number : RefusesBy wire.number (λ n r. ⊥)
reads_number = record {
  passes = λ s n u e. let (i, l) = number_codec.sound s n u e in (l, i, λ r w. w);
  refuses = λ s r e. inl (number_two s r e, λ n h. refused (sym e ∙ shown h));
}

-- a number is refused by a test
abbrev Fails : ℕ → (ℕ → Bool) → ℕ → ℕ → Type 0
Fails r test n q = (q ≡ r) × (test n ≡ false)

-- a test more, whose number is not lower
module _ {d : Decoder ℕ} {W W' : ℕ → ℕ → Type 0} (k : RefusesBy d W) (test : ℕ → Bool) (r : ℕ) (low : (n q : ℕ) → W n q → q ≤ r)
    (to : (n q : ℕ) → W n q ⊎ Fails r test n q → W' n q) (from : (n q : ℕ) → W' n q → W n q ⊎ Fails r test n q) where
  reads_test : RefusesBy (d >>= λ n. require (test n) r >> return n) W'
  reads_test = record {
    passes = passes;
    refuses = λ s q e. ⊎_elim (first s q) (λ (n, u, x, y). second s q n u x (test n) refl y) (then_refused (d s) (λ n. require (test n) r >> return n) e);
  }
    where
      neither : (n q : ℕ) → (W n q → ⊥) → test n ≡ true → W' n q → ⊥
      neither n q none holds w = ⊎_elim none (λ f. true≢false (sym holds ∙ f.1)) (from n q w)

      passes : (s : List ℕ) (n : ℕ) (u : List ℕ) → (d >>= λ n. require (test n) r >> return n) s ≡ ok n u
          → (n ≤ largest) × (s ≡ encode_number n ++ u) × ((q : ℕ) → W' n q → ⊥)
      passes s n u e =
          let (m, v, x, e) = then_ok (d s) _ e in
          let (holds, e) = require_ok (test m) r v _ e in
          let same : m ≡ n = cc in
          let (small, front, none) = k.passes s n u (x ∙ e) in
          (small, front, λ q. neither n q (none q) (rw same at holds))

      first : (s : List ℕ) (q : ℕ) → d s ≡ no q
          → ((q ≡ 2) × ((n : ℕ) → Shows s n → ⊥)) ⊎ ((n : ℕ) × Shows s n × W' n q × ((p : ℕ) → p < q → W' n p → ⊥))
      first s q x = ⊎_elim (λ two. inl two)
          (λ (n, h, w, lowest). inr (n, h, to n q (inl w), λ p l v. ⊎_elim (lowest p l) (λ f. let m = low n q w in omega (arith, f.0)) (from n p v)))
          (k.refuses s q x)

      second : (s : List ℕ) (q n : ℕ) (u : List ℕ) → d s ≡ ok n u → (b : Bool) → test n ≡ b → (require b r >> return n) u ≡ no q
          → ((q ≡ 2) × ((n : ℕ) → Shows s n → ⊥)) ⊎ ((n : ℕ) × Shows s n × W' n q × ((p : ℕ) → p < q → W' n p → ⊥))
      second s q n u x true is y = absurd (refused (sym y))
      second s q n u x false is y =
          let (small, front, none) = k.passes s n u x in
          let same : q ≡ r = cc in
          inr (n, record { rest = u; small = small; bytes = front }, to n q (inr (same, is)), λ p l v. ⊎_elim (none p) (λ f. omega (arith, f.0)) (from n p v))

-- what the tests at a position besides its being a boundary say
abbrev pub after : Option Group → Side → ℕ → Bool
after None = anywhere
after (Some g) = may_follow g

abbrev Besides : List ℕ → Position → ℕ → ℕ → Type 0
Besides source start n q = ⊥
Besides source (end from) n q = Fails 6 (leb from) n q
Besides source (string_end from) n q = Fails 6 (leb from) n q ⊎ Fails 13 (λ n. looks_quoted (slice source (record { start = from; end = n }))) n q
Besides source (comment_start last) n q = Fails 7 (leb last) n q
Besides source (comment_end kind from) n q = Fails 6 (leb from) n q ⊎ Fails 7 (λ n. marked kind (slice source (record { start = from; end = n }))) n q
Besides source (group_position last side) n q = Fails 7 (after last side) n q

-- and those at a number
abbrev Failing : Number → ℕ → ℕ → Type 0
Failing (limited c) n q = Fails 4 (λ n. leb n (limit c)) n q
Failing free n q = ⊥
Failing (position source at) n q = Fails 6 (is_boundary source) n q ⊎ Besides source at n q
Failing (group_count total first) n q = Fails 7 (λ n. ltb 0 n && leb (first + n) total) n q

-- no body stands between the marks
lacks_marks : (source : List ℕ) (kind : CommentKind) (from n : ℕ) → marked kind (slice source (record { start = from; end = n })) ≡ false
    → (body : List ℕ) → slice source (record { start = from; end = n }) ≡ opening kind ++ (body ++ closing kind) → ⊥
unfolding marked
lacks_marks source kind from n is body e = true≢false (sym (enclosed_complete (opening kind) (closing kind) _ body e) ∙ is)

no_marks : (source : List ℕ) (kind : CommentKind) (from n : ℕ) →
    ((body : List ℕ) → slice source (record { start = from; end = n }) ≡ opening kind ++ (body ++ closing kind) → ⊥)
    → marked kind (slice source (record { start = from; end = n })) ≡ false
unfolding marked
no_marks source kind from n h = false_from_ne_true _ (λ m. let (body, e) = enclosed_sound (opening kind) (closing kind) _ m in h body e)

-- in document 01's words
failing_wrong : (f : Number) (n q : ℕ) → Failing f n q → Wrong f n q
failing_wrong (limited c) n q (e, i) = rw e (over (leb-false n (limit c) i))
failing_wrong free n q w = absurd w
failing_wrong (position source at) n q (inl (e, i)) = rw e (outside (λ b. true≢false (sym ((is_boundary_iff source n).1 b) ∙ i)))
failing_wrong (position source start) n q (inr w) = absurd w
failing_wrong (position source (end from)) n q (inr (e, i)) = rw e (reversed (leb-false from n i))
failing_wrong (position source (string_end from)) n q (inr (inl (e, i))) = rw e (string_reversed (leb-false from n i))
failing_wrong (position source (string_end from)) n q (inr (inr (e, i))) = rw e (unquoted (λ h. true≢false (sym ((looks_quoted_iff _).1 h) ∙ i)))
failing_wrong (position source (comment_start last)) n q (inr (e, i)) = rw e (early (leb-false last n i))
failing_wrong (position source (comment_end kind from)) n q (inr (inl (e, i))) = rw e (comment_reversed (leb-false from n i))
failing_wrong (position source (comment_end kind from)) n q (inr (inr (e, i))) = rw e (unmarked (lacks_marks source kind from n i))
failing_wrong (position source (group_position None side)) n q (inr (e, i)) = absurd (true≢false i)
failing_wrong (position source (group_position (Some g) side)) n q (inr (e, i)) =
    rw e (disordered (λ h. true≢false (sym (in_order g.side g.position side n h) ∙ i)))
failing_wrong (group_count total first) n q (e, i) = rw e (reach n (ltb 0 n) refl (leb (first + n) total) refl i)
  where
    reach : (n : ℕ) (a : Bool) → ltb 0 n ≡ a → (b : Bool) → leb (first + n) total ≡ b → (a && b) ≡ false → Wrong (group_count total first) n 7
    reach zero a x b y i = empty refl
    reach (suc n) false x b y i = absurd (true≢false (sym (lt-ltb 0 (suc n) (omega arith)) ∙ x))
    reach (suc n) true x true y i = absurd (true≢false i)
    reach (suc n) true x false y i = beyond (leb-false (first + suc n) total y)

wrong_failing : {f : Number} {n q : ℕ} → Wrong f n q → Failing f n q
wrong_failing (over {c = c} {n = n} h) = (refl, lt-leb n (limit c) h)
wrong_failing (outside {source = source} {n = n} h) = inl (refl, false_from_ne_true (is_boundary source n) (λ i. h ((is_boundary_iff source n).0 i)))
wrong_failing (reversed {start = from} {n = n} h) = inr (refl, lt-leb from n h)
wrong_failing (string_reversed {start = from} {n = n} h) = inr (inl (refl, lt-leb from n h))
wrong_failing (comment_reversed {start = from} {n = n} h) = inr (inl (refl, lt-leb from n h))
wrong_failing (early {last = last} {n = n} h) = inr (refl, lt-leb last n h)
wrong_failing (unmarked {source = source} {kind = kind} {start = from} {n = n} h) = inr (inr (refl, no_marks source kind from n h))
wrong_failing (unquoted {source = source} {start = from} {n = n} h) = inr
    (inr (refl, false_from_ne_true _ (λ i. h ((looks_quoted_iff (slice source (record { start = from; end = n }))).0 i))))
wrong_failing (disordered {g = g} {side = side} {n = n} h) =
    inr (refl, false_from_ne_true (may_follow g side n) (λ i. h (by_order g.side g.position side n i)))
wrong_failing (empty {total = total} {first = first} {n = n} e) = (refl, rw e)
wrong_failing (beyond {total = total} {first = first} {n = n} h) = (
  refl,
  false_from_ne_true (ltb 0 n && leb (first + n) total)
      (λ i. true≢false (sym ((and-eq-true_iff (ltb 0 n) (leb (first + n) total)).0 i).1 ∙ lt-leb (first + n) total h)),
)

-- a field that is a number
module _ (f : Number) {d : Decoder ℕ} (k : RefusesBy d (Failing f)) where
  number_field : FieldsOf d Any (λ n. a_number f n ∷ [])
  number_field = field (number f) encode_number 0 tt passes (λ s r e. by s r (k.refuses s r e))
    where
      fits : (n : ℕ) → n ≤ largest → ((q : ℕ) → Failing f n q → ⊥) → (r : ℕ) → Breaks (number f) (encode_number n) r → ⊥
      fits n l none r (no_number h) = h n (record { rest = []; small = l; bytes = sym (append-nil (encode_number n)) })
      fits n l none r (wrong {n = m} h w) =
          let same : m ≡ n = shows_one h (record { rest = []; small = l; bytes = sym (append-nil (encode_number n)) }) in
          none r (rw same at (wrong_failing w))

      passes : (s : List ℕ) (n : ℕ) (u : List ℕ) → d s ≡ ok n u → Unit {0} × (s ≡ encode_number n ++ u) × ((r : ℕ) → Breaks (number f) (encode_number n) r → ⊥)
      passes s n u e = let (l, i, none) = k.passes s n u e in (tt, i, fits n l none)

      none_first : (s : List ℕ) → ((n : ℕ) → Shows s n → ⊥) → (q : ℕ) → q < 2 → Breaks (number f) s q → ⊥
      none_first s none q l (no_number h) = omega arith
      none_first s none q l (wrong {n = n} h w) = none n h

      lowest : (s : List ℕ) (r n : ℕ) → Shows s n → ((q : ℕ) → q < r → Failing f n q → ⊥) → (q : ℕ) → q < r → Breaks (number f) s q → ⊥
      lowest s r n i none q l (no_number h) = h n i
      lowest s r n i none q l (wrong {n = m} h w) = let same : m ≡ n = shows_one h i in none q l (rw same at (wrong_failing w))

      by : (s : List ℕ) (r : ℕ) → ((r ≡ 2) × ((n : ℕ) → Shows s n → ⊥)) ⊎ ((n : ℕ) × Shows s n × Failing f n r × ((q : ℕ) → q < r → Failing f n q → ⊥))
          → Breaks (number f) s r × ((q : ℕ) → q < r → Breaks (number f) s q → ⊥)
      by s r (inl (two, none)) = rw two (no_number none, none_first s none)
      by s r (inr (n, h, w, none)) = (wrong h (failing_wrong f n r w), lowest s r n h none)

-- the numbers of a sheet
pub free_field : FieldsOf wire.number Any (λ n. a_number free n ∷ [])
free_field = number_field free reads_number

pub count_field : (c : Count) → FieldsOf (count (limit c)) Any (λ n. a_number (limited c) n ∷ [])
unfolding count
count_field c = number_field (limited c)
    (reads_test reads_number (λ n. leb n (limit c)) 4 (λ n q w. absurd w) (λ n q w. ⊎_elim (λ v. absurd v) (λ v. v) w) (λ n q w. inr w))

pub group_count_field : (total first : ℕ) →
    FieldsOf (wire.number >>= λ n. require (ltb 0 n && leb (first + n) total) 7 >> return n) Any (λ n. a_number (group_count total first) n ∷ [])
group_count_field total first =
    number_field (group_count total first)
    (reads_test reads_number (λ n. ltb 0 n && leb (first + n) total) 7 (λ n q w. absurd w) (λ n q w. ⊎_elim (λ v. absurd v) (λ v. v) w) (λ n q w. inr w))

module _ (source : List ℕ) where
  reads_position : RefusesBy (sheet.position source) (Fails 6 (is_boundary source))
  unfolding sheet.position
  reads_position = reads_test reads_number (is_boundary source) 6 (λ n q w. absurd w) (λ n q w. ⊎_elim (λ v. absurd v) (λ v. v) w) (λ n q w. inr w)

  reads_end : (from : ℕ) → RefusesBy (end_from source from) (λ n q. Fails 6 (is_boundary source) n q ⊎ Fails 6 (leb from) n q)
  unfolding end_from
  reads_end from = reads_test reads_position (leb from) 6 (λ n q w. omega (arith, w.0)) (λ n q w. w) (λ n q w. w)

  pub start_field : FieldsOf (sheet.position source) Any (λ n. a_number (position source start) n ∷ [])
  start_field = number_field (position source start) (record {
    passes = λ s n u e. let (l, i, none) = reads_position.passes s n u e in (l, i, λ r w. ⊎_elim (none r) (λ v. v) w);
    refuses = λ s r e. ⊎_elim (λ two. inl two) (λ (n, h, w, none). inr (n, h, inl w, λ q l v. ⊎_elim (none q l) (λ z. z) v)) (reads_position.refuses s r e);
  })

  pub end_field : (from : ℕ) → FieldsOf (end_from source from) Any (λ n. a_number (position source (end from)) n ∷ [])
  end_field from = number_field (position source (end from)) (reads_end from)

  pub comment_start_lem : (last : ℕ) →
      FieldsOf (sheet.position source >>= λ n. require (leb last n) 7 >> return n) Any (λ n. a_number (position source (comment_start last)) n ∷ [])
  comment_start_lem last =
      number_field (position source (comment_start last)) (reads_test reads_position (leb last) 7 (λ n q w. omega (arith, w.0)) (λ n q w. w) (λ n q w. w))

  -- an end with a test more, whose number is not lower
  reads_end_test : (from : ℕ) (test : ℕ → Bool) (r : ℕ) → 6 ≤ r
      → RefusesBy (end_from source from >>= λ n. require (test n) r >> return n)
      (λ n q. Fails 6 (is_boundary source) n q ⊎ (Fails 6 (leb from) n q ⊎ Fails r test n q))
  reads_end_test from test r high =
      reads_test (reads_end from) test r
      (λ n q w. ⊎_elim (λ v. omega (arith, v.0)) (λ v. omega (arith, v.0)) w)
      (λ n q w. ⊎_elim (λ v. ⊎_elim (λ z. inl z) (λ z. inr (inl z)) v) (λ v. inr (inr v)) w)
      (λ n q w. ⊎_elim (λ v. inl (inl v)) (λ v. ⊎_elim (λ z. inl (inr z)) (λ z. inr z) v) w)

  pub string_end_lem : (from : ℕ)
      → FieldsOf (end_from source from >>= λ n. require (looks_quoted (slice source (record { start = from; end = n }))) 13 >> return n) Any
      (λ n. a_number (position source (string_end from)) n ∷ [])
  string_end_lem from = number_field (position source (string_end from))
      (reads_end_test from (λ n. looks_quoted (slice source (record { start = from; end = n }))) 13 (omega arith))

  pub comment_end_lem : (kind : CommentKind) (from : ℕ)
      → FieldsOf (end_from source from >>= λ n. require (marked kind (slice source (record { start = from; end = n }))) 7 >> return n) Any
      (λ n. a_number (position source (comment_end kind from)) n ∷ [])
  comment_end_lem kind from = number_field (position source (comment_end kind from))
      (reads_end_test from (λ n. marked kind (slice source (record { start = from; end = n }))) 7 (omega arith))

  pub group_position_lem : (last : Option Group) (side : Side)
      → FieldsOf (sheet.position source >>= λ n. require (after last side n) 7 >> return n) Any
      (λ n. a_number (position source (group_position last side)) n ∷ [])
  group_position_lem last side =
      number_field (position source (group_position last side))
      (reads_test reads_position (after last side) 7 (λ n q w. omega (arith, w.0)) (λ n q w. w) (λ n q w. w))
