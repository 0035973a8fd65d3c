-- The columns that are printed are right.
use Rattle.laws.proofs.Prelude.{◌≡◌, sym, ap, ◌∙◌, Bool, true, false, cond, ◌↔◌, ⊎_elim, List, [], ◌∷◌, ℕ, ◌+◌, ◌/◌, ◌≤◌, ◌<◌, arith, eqb, length, get_or}
use Rattle.laws.proofs.Prelude.{le-leb, lt-leb}
use native.Mathlib.Decide.{dec_le}
use Rattle.laws.specs.Codec.{All}
use Rattle.text.specs.{declared.position.Position.Position, declared.utf8.Encoding.TheVariants.Utf8, Encode.encode, WellFormed.WellFormed}
use Rattle.text.specs.Position.{Units, characters, position_of, Boundary, Before, utf16}
use Rattle.text.proofs.{CodePoint.by_length, Columns.counted, PositionsApart.grows, PositionsApart.one_place}
use Rattle.wire.specs.Number.{largest}
use Rattle.sheet.specs.declared.fields.Span.{Span}
use Rattle.report.{specs.ModuleInfo.PositionRange, specs.Range.range_of, specs.Range.RangeAt, specs.Valid.ValidPosition, proofs.Ranges.range_valid}
use Rattle.citation.specs.Columns.{begins_four, from_line, recounted}
use Rattle.citation.specs.Citation.{cite_range, Line, printed}
use Rattle.citation.specs.Right.{utf16_range, CitedAt, ColumnsRight}
use Rattle.citation.specs.code.Printable.{Printable}
use Rattle.citation.proofs.{Fours.fours_most, Recounts.recounts, Apart.same_range, Apart.range_one}

-- ---- units

units_right : (c : ℕ) → utf16 (get_or (encode c) 0 0) ≡ cond (eqb (length (encode c)) 4) 2 1
units_right c =
    by_length (λ bs. utf16 (get_or bs 0 0) ≡ cond (eqb (length bs) 4) 2 1) c
    (λ l. rw (lt-leb 0xF0 c (omega arith)))
    (λ l h. rw (lt-leb 0xF0 (0xC0 + c / 64) (omega arith)))
    (λ l h. rw (lt-leb 0xF0 (0xE0 + c / 4096) (omega arith)))
    (λ l. rw (le-leb 0xF0 (0xF0 + c / 262144) (omega arith)))

utf16_some : (b : ℕ) → 0 < utf16 b
utf16_some b = by (begins_four b)
  where
    by : (four : Bool) → 0 < cond four 2 1
    by true = omega arith
    by false = omega arith

-- ---- order

never_both : {p q : Position} → Before p q → Before q p → ⊥
never_both h k = ⊎_elim (λ a. ⊎_elim (λ b. omega arith) (λ b. omega arith) k) (λ a. ⊎_elim (λ b. omega arith) (λ b. omega arith) k) h

-- places in order have positions in order
before_iff : {unit : Units} → ((b : ℕ) → 0 < unit b) → (s : List ℕ) (p q : ℕ) → Boundary s p → Boundary s q
    → (p < q) ↔ Before (position_of unit s p) (position_of unit s q)
before_iff {unit} some s p q a b = (λ l. grows some s p q l b.0 a.1, λ h. by h (dec_le q p) (dec_le p q))
  where
    by : Before (position_of unit s p) (position_of unit s q) → Dec (q ≤ p) → Dec (p ≤ q) → p < q
    by h (no l) m = omega arith
    by h (yes l) (no m) = absurd (never_both h (grows some s q p (omega arith) a.0 b.1))
    by h (yes l) (yes m) = let same : q ≡ p = omega arith in let k = rw same at h in absurd (never_both k k)

-- ---- places

module _ (source : List ℕ) (short : length source ≤ largest) where
  -- a position in UTF-16 code units can be printed
  printable : (at : ℕ) → ValidPosition (position_of characters source at) → Printable (position_of utf16 source at)
  unfolding recounted
  printable at v =
      let p = position_of characters source at in
      rw (← recounts source at)
      (record { line = v.line; column = omega (arith, v.column, fours_most p.column (from_line p.line source)) })

  places_apart : (a b : Span) → Boundary source a.start → Boundary source a.end → Boundary source b.start → Boundary source b.end
      → cite_range (utf16_range source a) ≡ cite_range (utf16_range source b) → a ≡ b
  places_apart a b i j k l e =
      let x = range_valid source a short in
      let y = range_valid source b short in
      let same = range_one (printable a.start x.start, printable a.end x.end) (printable b.start y.start, printable b.end y.end) e in
      let starts = one_place utf16_some source a.start b.start i k (ap (λ (r : PositionRange). r.start) same) in
      let ends = one_place utf16_some source a.end b.end j l (ap (λ (r : PositionRange). r.end) same) in
      let one : ◌≡◌ {A = Span} (record { start = a.start; end = a.end }) (record { start = b.start; end = b.end }) = rw (starts, ends) in
      one

  cited_at : (ls : List Line) → All (λ l. (place : Span) × RangeAt source l.range place) ls → All (λ l. (place : Span) × CitedAt source l place) ls
  cited_at [] a = tt
  cited_at (l ∷ ls) ((place, r), a) =
      ((place, record { range = r; columns = rw r.is (same_range (recounts source place.start) (recounts source place.end)) }), cited_at ls a)

  pub columns_right : WellFormed Utf8 source → {ls : List Line} → All (λ l. (place : Span) × RangeAt source l.range place) ls → ColumnsRight source ls
  columns_right formed {ls} placed = record {
    units = units_right;
    counted = counted utf16 source formed;
    placed = cited_at ls placed;
    apart = places_apart;
    order = λ p q a b.
        let (x, y) = before_iff {unit = characters} (λ c. omega arith) source p q a b in
        let (u, v) = before_iff {unit = utf16} utf16_some source p q a b in
        (λ h. u (y h), λ h. x (v h));
  }

-- a line is printed alike over two sources where both positions of its place are the same, in characters and in UTF-16 code units
module _ (s t : List ℕ) where
  position_same : (p : Position) (at : ℕ) → p ≡ position_of characters s at → position_of characters s at ≡ position_of characters t at →
      position_of utf16 s at ≡ position_of utf16 t at
      → recounted s p ≡ recounted t p
  position_same p at is c u = rw is (recounts s at ∙ u ∙ sym (recounts t at) ∙ ap (recounted t) (sym c))

  pub printed_same : (l : Line) (place : Span) → l.range ≡ range_of s place
      → position_of characters s place.start ≡ position_of characters t place.start →
      position_of characters s place.end ≡ position_of characters t place.end
      → position_of utf16 s place.start ≡ position_of utf16 t place.start → position_of utf16 s place.end ≡ position_of utf16 t place.end
      → printed s l ≡ printed t l
  unfolding printed
  printed_same l place is c d u v =
      let start = position_same l.range.start place.start (ap (λ (r : PositionRange). r.start) is) c u in
      let end = position_same l.range.end place.end (ap (λ (r : PositionRange). r.end) is) d v in
      rw (start, end)
