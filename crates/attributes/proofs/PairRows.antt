-- Pairs in the first rows of a table: how many there are, one instead of another or before it, and the bytes of each.
use Rattle.laws.proofs.Prelude.{◌≡◌, sym, ap, ◌∙◌, List, [], ◌∷◌, append_assoc, append-nil, flat_map, map, ℕ, suc, ◌+◌, ◌-◌, ◌≤◌, ◌<◌, arith, length}
use Rattle.laws.proofs.Prelude.{get_or, set, take, take_all, drop}
use Rattle.laws.proofs.Prelude.{length-drop, length-take, length-take-le, drop_of_length-le, take-append_seam, length-append, ◌++◌}
use Rattle.laws.proofs.Lists.{flat_map_append}
use Rattle.report.specs.{declared.writer.Writer.Writer, ModuleInfo.KeyValue, Encode.encode_key_value, Buffer.Wrote}
use Rattle.report.proofs.Buffers.{more_append}
use Rattle.attributes.specs.declared.pairs.Pair.{Pair}
use Rattle.attributes.specs.code.Rows.{pair_as, pairs_in}
use Rattle.std.specs.List as list
use borrow.Rule.Slice.PartMut.{mid_of, post_of, put_mid}
use Rattle.std.proofs.Math.Seq.{take-set-lt}
use Rattle.std.proofs.lemmas.List.{take_more, take_more_set, take-take, drop_more, drop-set-lt, get_or-map, length-map, map-set, map-append, take-map, drop-map}
use Rattle.std.proofs.lemmas.Slice.{between_is}

-- what was carried stored in the kth row, and the pair of that row carried on
pub row_carried : {A : Type 0} (t : List A) (k : ℕ) (carried d : A) → k < length t
    → list.insert (set t k carried) (k + 1) (get_or t k d) ≡ list.insert t k carried
row_carried t k carried d h =
    rw (take_more_set t k carried h, drop-set-lt (k + 1) t k carried (omega arith), drop_more t k d h, append_assoc)

-- the rows from the ith on moved up by one, over the last, and a pair stored there
pub row_opened : {A : Type 0} (t moved : List A) (i k : ℕ) (p carried : A) → i < length t → length moved ≡ length (mid_of i (length t - i) t)
    → length moved ≤ k → list.insert moved k carried ≡ p ∷ mid_of i (length t - i) t
    → put_mid i (length t - i) t moved ≡ list.insert (take (length t - 1) t) i p
row_opened t moved i k p carried h long end e =
    let n = length t - 1 in
    let rest : mid_of i (length t - i) t ≡ drop i t = take_all (length t - i) (drop i t) (omega (arith, length-drop i t)) in
    let some : length moved ≡ suc (n - i) = omega (arith, length-drop i t, long ∙ ap length rest) in
    let all : moved ++ carried ∷ [] ≡ p ∷ drop i t = rw (take_all k moved end, drop_of_length-le moved {i = k} end, rest) at e in
    let kept : moved ≡ p ∷ take (n - i) (drop i t) = sym (take-append_seam moved (carried ∷ [])) ∙ rw (all, some) in
    let none : post_of i (length t - i) t ≡ [] = drop_of_length-le (drop i t) {i = length t - i} (omega (arith, length-drop i t)) in
    rw (none, append-nil, kept, between_is t i n, take-take i n t (omega arith))

-- in rows that hold the pairs l
module _ (rows : List Pair) (l : List KeyValue) (e : map pair_as rows ≡ l) where
  pub pairs_length : length rows ≡ length l
  pairs_length = rw (← e, length-map)

  -- the ith
  pub row_is : (i : ℕ) (r : Pair) (d : KeyValue) → i < length l → get_or l i d ≡ pair_as (get_or rows i r)
  row_is i r d h = rw (← e) (get_or-map pair_as rows i r d (omega (arith, pairs_length)))

-- in the first n rows, which hold the pairs l
module _ (rows : List Pair) (n : ℕ) (l : List KeyValue) (e : pairs_in rows n ≡ l) where
  pub rows_filled : n ≤ length rows → n ≡ length l
  rows_filled h = rw (← e, length-map) (sym (length-take-le n rows h))

  -- one instead of another
  pub set_pairs : (i : ℕ) (p : Pair) → i < length l → pairs_in (set rows i p) n ≡ set l i (pair_as p)
  set_pairs i p h =
      let among : i < length (pairs_in rows n) = rw e h in
      let below : i < n = omega (arith, length-map (take n rows) pair_as, length-take n rows) in
      rw (take-set-lt n rows i p below, map-set pair_as (take n rows) i p, e)

  -- in the first n + 1 of them others
  pub opened_length : (opened : List Pair) → n < length rows → length opened ≡ length (take (n + 1) rows)
      → length (opened ++ post_of 0 (n + 1) rows) ≡ length rows
  opened_length opened more long =
      omega (arith, length-append opened (post_of 0 (n + 1) rows), length-drop (n + 1) rows, length-take-le (n + 1) rows (omega arith))

  -- one before it, over the row behind them
  pub insert_pairs : (i : ℕ) (p : Pair) (opened others : List Pair) → n < length rows → length opened ≡ length (take (n + 1) rows)
      → opened ≡ list.insert (take (length (take (n + 1) rows) - 1) (take (n + 1) rows)) i p
      → pairs_in (opened ++ others) (n + 1) ≡ list.insert l i (pair_as p)
  insert_pairs i p opened others more long is =
      let wide : length (take (n + 1) rows) ≡ n + 1 = length-take-le (n + 1) rows (omega arith) in
      let last : length (take (n + 1) rows) - 1 ≡ n = omega arith in
      let all : length opened ≡ n + 1 = long ∙ wide in
      rw (← all, take-append_seam, rw (last, take-take n (n + 1) rows (omega arith)) at is, ← e) (simp (map-append, take-map, drop-map))

-- the bytes of one more pair
pub one_more : (before now after : Writer) (rows : List Pair) (i : ℕ) (d : Pair) → i < length rows
    → Wrote before now (flat_map encode_key_value (map pair_as (take i rows)))
    → Wrote now after (encode_key_value (pair_as (get_or rows i d)))
    → Wrote before after (flat_map encode_key_value (map pair_as (take (i + 1) rows)))
unfolding flat_map
one_more before now after rows i d h so_far one =
    rw (take_more rows i d h, map-append, flat_map_append, append-nil, more_append, ← so_far) one
