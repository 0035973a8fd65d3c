-- Positions from one place of a text to another, how far they go, and an index of them.
use Rattle.laws.proofs.Prelude.{◌≡◌, refl, ◌∙◌, Bool, true, false, cond, List, [], ◌∷◌, ◌++◌, ℕ, ◌+◌, ◌-◌, ◌*◌, ◌/◌, ◌%◌, ◌≤◌, ◌<◌, not-suc-le-zero, arith}
use Rattle.laws.proofs.Prelude.{add-one, eqb, ltb, length, get_or, set, take, drop, length-take-le, get_or-set_other, get_or-set_same, ltb-true}
use native.Mathlib.Nat.{add-sub_of_le, mod-eq-sub-mul-div}
use lib.Seq.{take-add, take-suc}
use borrow.Author.Count.{below_more}
use Rattle.std.proofs.lemmas.List.{length-map, map-set}
use Rattle.text.specs.{declared.position.Position.Position, declared.position.PositionRow.PositionRow, Ranges.within, Utf8.continuation}
use Rattle.text.specs.Position.{Units, characters, step, walk, start_position, position_of, Indexed, indexed_position}
use Rattle.text.specs.code.Index.{position_in, positions_in, IndexOf}

-- a walk goes on where another ends
pub walk_append : (unit : Units) (p : Position) (s t : List ℕ) → walk unit p (s ++ t) ≡ walk unit (walk unit p s) t
unfolding walk
walk_append unit p [] t = refl
walk_append unit p (b ∷ s) t = walk_append unit (step unit p b) s t

-- from one place of a text to a later one
pub onward : (unit : Units) (s : List ℕ) (from at : ℕ) → from ≤ at
    → walk unit (position_of unit s from) (take (at - from) (drop from s)) ≡ position_of unit s at
unfolding position_of
onward unit s from at h = rw (← walk_append, ← take-add, add-sub_of_le h)

pub scanned : (unit : Units) (s : List ℕ) (from at : ℕ) → from ≤ at → {p q : Position} → p ≡ position_of unit s from
    → q ≡ walk unit p (take (at - from) (drop from s)) → q ≡ position_of unit s at
scanned unit s from at h e f = rw e at f ∙ onward unit s from at h

-- one byte more
pub walk_more : (unit : Units) (p : Position) (s : List ℕ) (i : ℕ) → i < length s
    → walk unit p (take (i + 1) s) ≡ step unit (walk unit p (take i s)) (get_or s i 0)
unfolding walk
walk_more unit p s i l = rw (add-one, take-suc s i 0 l, walk_append)

-- a byte ends the line, or adds the columns of the character that it begins
pub by_step : (unit : Units) (p : Position) (b : ℕ) (P : Position → Type 0) → P (record { line = p.line + 1; column = 0 })
    → P (record { line = p.line; column = p.column + cond (within continuation b) 0 (unit b) }) → P (step unit p b)
unfolding step
by_step unit p b P ended on = go (eqb b 0x0A) ended on
  where
    go : {q r : Position} (t : Bool) → P q → P r → P (cond t q r)
    go true x y = x
    go false x y = y

-- at most one line or one column more
pub step_bounded : (p : Position) (b : ℕ) → ((step characters p b).line ≤ p.line + 1) × ((step characters p b).column ≤ p.column + 1)
step_bounded p b = by_step characters p b (λ q. (q.line ≤ p.line + 1) × (q.column ≤ p.column + 1)) (omega arith) (omega (arith, go (within continuation b)))
  where
    go : (t : Bool) → cond t 0 1 ≤ 1
    go true = omega arith
    go false = omega arith

walk_bounded : (p : Position) (s : List ℕ) → ((walk characters p s).line ≤ p.line + length s) × ((walk characters p s).column ≤ p.column + length s)
unfolding walk
walk_bounded p [] = omega arith
walk_bounded p (b ∷ s) =
    let one = step_bounded p b in
    let more = walk_bounded (step characters p b) s in
    omega arith

-- neither the line nor the column is past the number of bytes
pub bounded : (s : List ℕ) (at : ℕ) → at ≤ length s → {p : Position} → p ≡ position_of characters s at → (p.line ≤ at) × (p.column ≤ at)
unfolding position_of
bounded s at h e =
    let most = walk_bounded start_position (take at s) in
    rw e (omega (arith, length-take-le at s h))

-- of no rows an index is right, and so it is of one more, where the next one has the position at its byte
module _ {unit : Units} {s : List ℕ} where
  pub index_none : (index : List Position) → Indexed unit s index 0
  index_none index = record { right = λ k l. absurd (not-suc-le-zero l) }

  pub index_more : (rows : List PositionRow) (n : ℕ) (row : PositionRow) → Indexed unit s (positions_in rows) n → n < length rows
      → position_in row ≡ position_of unit s (64 * n) → Indexed unit s (positions_in (set rows n row)) (n + 1)
  index_more rows n row h l e =
      let ps = positions_in rows in
      record {
        right = λ k i. rw (map-set position_in rows n row)
            (below_more (λ k. get_or (set ps n (position_in row)) k start_position ≡ position_of unit s (64 * k)) n
            (λ k j. get_or-set_other ps n k (position_in row) start_position (λ x. omega arith) ∙ h.right k j)
            (get_or-set_same ps n (position_in row) start_position (rw length-map l) ∙ e)
            k (omega arith));
      }

-- by the index of a source the position is that of the source
pub indexed : {s : List ℕ} {index : List Position} → IndexOf s index → (at : ℕ) → at ≤ length s
    → indexed_position characters s index at ≡ position_of characters s at
unfolding indexed_position
indexed {s} {index} h at most = go (ltb (at / 64) (length index)) refl
  where
    go : (b : Bool) → ltb (at / 64) (length index) ≡ b
        → cond b (walk characters (get_or index (at / 64) start_position) (take (at % 64) (drop (64 * (at / 64)) s))) (position_of characters s at)
        ≡ position_of characters s at
    go false e = refl
    go true e =
        let has = ltb-true (at / 64) (length index) e in
        rw (h.right (at / 64) (omega arith), mod-eq-sub-mul-div) (onward characters s (64 * (at / 64)) at (omega arith))
