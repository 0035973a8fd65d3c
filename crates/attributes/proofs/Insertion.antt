-- A pair's place among rows: at the first that it does not belong behind. And how many pairs there are with it.
use Rattle.laws.proofs.Prelude.{arith, ◌≡◌, refl, ap, List, [], ◌∷◌, map, ℕ, zero, suc, ◌+◌, ◌≤◌, ◌<◌, Bool, cond, true, false, length, set}
use Rattle.std.specs.Prelude.{Result, Ok, Err}
use Rattle.std.specs.List as list
use Rattle.std.specs.List.{HoldsAt, AllWithin}
use Rattle.std.specs.Ordering.{is_eq, is_le}
use Rattle.std.specs.declared.cmp.Ordering.{Ordering}
use Rattle.std.specs.declared.cmp.Ordering.TheVariants.{Less, Equal, Greater}
use Rattle.std.proofs.lemmas.List.{length-map}
use Rattle.laws.specs.{Codec.All, code.Told.Told}
use Rattle.text.specs.Bytes.{order}
use Rattle.report.specs.ModuleInfo.{KeyValue}
use Rattle.attributes.specs.Attributes.{placed, insert}
use Rattle.attributes.specs.declared.pairs.Pair.{Pair}
use Rattle.attributes.specs.code.{Rows.pair_as, Views.slot_as, Views.SlotWithin}

-- a pair put in its place, by the tests of what the comparison answers
placed_by : (o : Ordering) (a b : KeyValue) (l further : List KeyValue)
    → placed o a b l further ≡ cond (is_le o) (cond (is_eq o) (a ∷ l) (a ∷ b ∷ l)) (b ∷ further)
placed_by Less a b l further = refl
placed_by Equal a b l further = refl
placed_by Greater a b l further = refl

module _ (p : Pair) where
  abbrev against : Pair → Ordering
  against row = order p.key.now row.key.now

  -- behind the first i rows
  abbrev Past : List Pair → ℕ → Type 0
  Past rows i = AllWithin (λ row. is_le (against row) ≡ false) rows 0 i

  -- not behind the ith, whose key is the same or is not
  abbrev Here : Bool → List Pair → ℕ → Type 0
  Here same rows i = HoldsAt (λ row. (is_le (against row) ≡ true) × (is_eq (against row) ≡ same)) rows i

  past_next : (row : Pair) (rows : List Pair) (i : ℕ) → Past (row ∷ rows) (suc i) → (is_le (against row) ≡ false) × Past rows i
  past_next row rows i past = (past 0 p (omega arith) (omega arith), λ k d l m. past (suc k) d (omega arith) (omega arith))

  instead : (rows : List Pair) (i : ℕ) → i < length rows → Past rows i → Here true rows i
      → set (map pair_as rows) i (pair_as p) ≡ insert (pair_as p) (map pair_as rows)
  unfolding insert
  instead [] i h past here = absurd (omega arith)
  instead (row ∷ rows) zero h past here = let (e, f) = here p in rw (placed_by, e, f) refl
  instead (row ∷ rows) (suc i) h past here =
      let (first, more) = past_next row rows i past in
      rw (placed_by, first) (ap (pair_as row ∷◌) (instead rows i (omega arith) more here))

  before : (rows : List Pair) (i : ℕ) → i ≤ length rows → Past rows i → (i < length rows → Here false rows i)
      → list.insert (map pair_as rows) i (pair_as p) ≡ insert (pair_as p) (map pair_as rows)
  unfolding insert
  before [] zero h past here = refl
  before [] (suc i) h past here = absurd (omega arith)
  before (row ∷ rows) zero h past here = let (e, f) = here (omega arith) p in rw (placed_by, e, f) refl
  before (row ∷ rows) (suc i) h past here =
      let (first, more) = past_next row rows i past in
      rw (placed_by, first) (ap (pair_as row ∷◌) (before rows i (omega arith) more (λ l. here (omega arith))))

  -- what a search answers
  abbrev IsSlot : List Pair → Result ℕ ℕ → Type 0
  IsSlot rows = Told (slot_as (pair_as p) (map pair_as rows)) (insert (pair_as p) (map pair_as rows)) (SlotWithin (length (map pair_as rows)))

  pub slot_same : (rows : List Pair) (i : ℕ) → i < length rows → Past rows i → Here true rows i → IsSlot rows (Ok i)
  slot_same rows i h past here = record { answer = instead rows i h past here; bounds = rw length-map h }

  pub slot_before : (rows : List Pair) (i : ℕ) → i ≤ length rows → Past rows i → (i < length rows → Here false rows i) → IsSlot rows (Err i)
  slot_before rows i h past here = record { answer = before rows i h past here; bounds = rw length-map h }

-- one more pair at most
pub insert_length : (a : KeyValue) (pairs : List KeyValue) → length (insert a pairs) ≤ length pairs + 1
unfolding insert
insert_length a [] = omega arith
insert_length a (b ∷ pairs) = by_order (order a.key b.key) (insert_length a pairs)
  where
    by_order : (o : Ordering) → length (insert a pairs) ≤ length pairs + 1 → length (placed o a b pairs (insert a pairs)) ≤ length (b ∷ pairs) + 1
    by_order Less h = omega arith
    by_order Equal h = omega arith
    by_order Greater h = omega arith

-- what holds of all pairs and of one more
pub insert_all : (P : KeyValue → Type 0) (a : KeyValue) (pairs : List KeyValue) → P a → All P pairs → All P (insert a pairs)
unfolding insert
insert_all P a [] h p = (h, tt)
insert_all P a (b ∷ pairs) h p = by_order (order a.key b.key) (insert_all P a pairs h p.1)
  where
    by_order : (o : Ordering) → All P (insert a pairs) → All P (placed o a b pairs (insert a pairs))
    by_order Less q = (h, p)
    by_order Equal q = (h, p.1)
    by_order Greater q = (p.0, q)
