-- What the stores of `append` and `serve` make of the desk that a block stands for.
use Rattle.laws.proofs.Prelude.{◌≡◌, refl, sym, ◌∙◌, ap, List, [], ◌∷◌, ◌++◌, ℕ, suc, ◌+◌, ◌-◌, ◌*◌, ◌%◌, ◌<◌, arith, length, get_or, set, drop, length-set}
use Rattle.laws.proofs.Prelude.{get_or-set_same, get_or-set_other}
use Rattle.desk.specs.Desk.{Desk, queue, with_sheet, without_front}
use Rattle.desk.specs.Block.{ring, count_in, queue_in, desk_as}
use Rattle.desk.proofs.Rings.{ring_round, ring_last, ring_same, queue_same, queue_of, queues_changed}

-- two desks with the same queues and the same next depositor
same_desk : {q r : List (List ℕ)} {m n : ℕ} → q ≡ r → m ≡ n → ◌≡◌ {A = Desk} (record { queues = q; next = m }) (record { queues = r; next = n })
same_desk e f = λ i. record { queues = e i; next = f i }

-- a number that two stores leave
kept : (l : List ℕ) (i v j w k : ℕ) → (k ≡ i → ⊥) → (k ≡ j → ⊥) → get_or (set (set l i v) j w) k 0 ≡ get_or l k 0
kept l i v j w k a b = get_or-set_other (set l i v) j k w 0 b ∙ get_or-set_other l i k v 0 a

module _ (block : List ℕ) (d count : ℕ) (long : length block ≡ 161) (here : d < 16) (counted : count ≡ count_in block d) where
  abbrev front : ℕ
  front = get_or block (10 * d + 8) 0

  -- a sheet behind the last one, and one more that waits
  module _ (room : count < 8) (s more : ℕ) (one_more : more ≡ suc count) where
    abbrev place : ℕ
    place = 10 * d + (front % 8 + count) % 8

    abbrev new : List ℕ
    new = set (set block place s) (10 * d + 9) more

    other : (k : ℕ) → (k ≡ place → ⊥) → (k ≡ 10 * d + 9 → ⊥) → get_or new k 0 ≡ get_or block k 0
    other k = kept block place s (10 * d + 9) more k

    counted_new : count_in new d ≡ suc count
    counted_new = rw (get_or-set_same (set block place s) (10 * d + 9) more 0 (rw length-set (omega arith))) (omega arith)

    sheet_there : get_or new (10 * d + (front + count) % 8) 0 ≡ s
    sheet_there =
        let e : 10 * d + (front + count) % 8 ≡ place = omega arith in
        rw e (get_or-set_other (set block place s) (10 * d + 9) place more 0 (λ e. omega arith) ∙ get_or-set_same block place s 0 (omega arith))

    appended_queue : queue_in new d ≡ queue_in block d ++ s ∷ []
    appended_queue =
        rw (other (10 * d + 8) (λ e. omega arith) (λ e. omega arith), counted_new, ring_last, sheet_there, ← counted)
        (ap (λ l. l ++ s ∷ []) (ring_same block new d front count (λ k below. other _ (λ e. omega arith) (λ e. omega arith))))

    pub appended : desk_as new ≡ with_sheet (desk_as block) d s
    unfolding with_sheet
    appended =
        same_desk
        (queues_changed block new d _ here (appended_queue ∙ ap (λ q. q ++ s ∷ []) (sym (queue_of block d here)))
        (λ i below off. queue_same block new i (λ k low. other _ (λ e. omega arith) (λ e. omega arith))))
        (ap (λ n. n % 16) (other 160 (λ e. omega arith) (λ e. omega arith)))

  module _ (some : 0 < count) where
    queue_before : queue_in block d ≡ get_or block (10 * d + front % 8) 0 ∷ ring block d (front + 1) (count - 1)
    unfolding ring
    queue_before = let e : count_in block d ≡ suc (count - 1) = omega arith in rw e refl

    pub front_sheet : get_or block (10 * d + front % 8) 0 ≡ get_or (queue (desk_as block) d) 0 0
    front_sheet = rw (queue_of block d here, queue_before) refl

    -- the place of the front sheet, the count and the next depositor moved on
    module _ (second fewer next : ℕ) (place_moved : second ≡ (front % 8 + 1) % 8) (one_fewer : fewer ≡ count - 1) (next_moved : next ≡ (d + 1) % 16) where
      abbrev moved : List ℕ
      moved = set (set block (10 * d + 8) second) (10 * d + 9) fewer

      abbrev served : List ℕ
      served = set moved 160 next

      unmoved : (k : ℕ) → (k ≡ 10 * d + 8 → ⊥) → (k ≡ 10 * d + 9 → ⊥) → (k ≡ 160 → ⊥) → get_or served k 0 ≡ get_or block k 0
      unmoved k a b e = get_or-set_other moved 160 k next 0 e ∙ kept block (10 * d + 8) second (10 * d + 9) fewer k a b

      front_new : get_or served (10 * d + 8) 0 ≡ second
      front_new =
          get_or-set_other moved 160 (10 * d + 8) next 0 (λ e. omega arith)
          ∙ get_or-set_other (set block (10 * d + 8) second) (10 * d + 9) (10 * d + 8) fewer 0 (λ e. omega arith)
          ∙ get_or-set_same block (10 * d + 8) second 0 (omega arith)

      counted_served : count_in served d ≡ count - 1
      counted_served =
          rw (
            get_or-set_other moved 160 (10 * d + 9) next 0 (λ e. omega arith),
            get_or-set_same (set block (10 * d + 8) second) (10 * d + 9) fewer 0 (rw length-set (omega arith)),
          )
          (omega arith)

      served_queue : queue_in served d ≡ drop 1 (queue_in block d)
      served_queue =
          rw (front_new, counted_served, queue_before)
          (ring_round served d second (front + 1) (count - 1) (omega arith)
          ∙ ring_same block served d (front + 1) (count - 1) (λ k below. unmoved _ (λ e. omega arith) (λ e. omega arith) (λ e. omega arith)))

      pub front_served : desk_as served ≡ without_front (desk_as block) d
      unfolding without_front
      front_served =
          same_desk
          (queues_changed block served d _ here (served_queue ∙ ap (drop 1) (sym (queue_of block d here)))
          (λ i below off. queue_same block served i (λ k low. unmoved _ (λ e. omega arith) (λ e. omega arith) (λ e. omega arith))))
          (rw (get_or-set_same moved 160 next 0 (rw (length-set, length-set) (omega arith))) (omega arith))
