-- The queues of a block, when numbers of it change.
use Rattle.laws.proofs.Prelude.{◌≡◌, refl, sym, ◌∙◌, ap, List, [], ◌∷◌, ◌++◌, ℕ, zero, suc, ◌+◌, ◌*◌, ◌%◌, ◌<◌, arith, ℕ_discrete, length, get_or, set}
use Rattle.laws.proofs.Prelude.{length-set, get_or-set_same, get_or-set_other}
use mathlib.Core.Path.{ap₂}
use lib.Seq.{ext_get_or}
use Rattle.desk.specs.Desk.{queue}
use Rattle.desk.specs.Block.{ring, count_in, queue_in, queues_in, desk_as}

module _ (block : List ℕ) (d : ℕ) where
  length_ring : (place n : ℕ) → length (ring block d place n) ≡ n
  unfolding ring
  length_ring place zero = refl
  length_ring place (suc n) = ap suc (length_ring (place + 1) n)

  -- a place counts modulo 8
  pub ring_round : (p q n : ℕ) → p % 8 ≡ q % 8 → ring block d p n ≡ ring block d q n
  unfolding ring
  ring_round p q zero e = refl
  ring_round p q (suc n) e = ap₂ ◌∷◌ (ap (λ k. get_or block (10 * d + k) 0) e) (ring_round (p + 1) (q + 1) n (omega arith))

  -- the last of them
  pub ring_last : (place n : ℕ) → ring block d place (suc n) ≡ ring block d place n ++ get_or block (10 * d + (place + n) % 8) 0 ∷ []
  unfolding ring
  ring_last place zero = ap (λ k. get_or block (10 * d + k % 8) 0 ∷ []) (omega arith)
  ring_last place (suc n) =
      let e : place + 1 + n ≡ place + suc n = omega arith in
      ap (λ l. get_or block (10 * d + place % 8) 0 ∷ l)
      (ring_last (place + 1) n ∙ ap (λ k. ring block d (place + 1) n ++ get_or block (10 * d + k % 8) 0 ∷ []) e)

length_queues : (block : List ℕ) (d n : ℕ) → length (queues_in block d n) ≡ n
unfolding queues_in
length_queues block d zero = refl
length_queues block d (suc n) = ap suc (length_queues block (d + 1) n)

-- the queue of each depositor
queue_at : (block : List ℕ) (d n i : ℕ) → i < n → get_or (queues_in block d n) i [] ≡ queue_in block (d + i)
unfolding queues_in
queue_at block d zero i h = absurd (omega arith)
queue_at block d (suc n) zero h = ap (queue_in block) (omega arith)
queue_at block d (suc n) (suc i) h = let e : d + 1 + i ≡ d + suc i = omega arith in queue_at block (d + 1) n i (omega arith) ∙ ap (queue_in block) e

pub queue_of : (block : List ℕ) (d : ℕ) → d < 16 → queue (desk_as block) d ≡ queue_in block d
queue_of block d h = queue_at block 0 16 d h ∙ ap (queue_in block) (omega arith)

pub length_queue_of : (block : List ℕ) (d : ℕ) → d < 16 → length (queue (desk_as block) d) ≡ count_in block d
length_queue_of block d h = rw (queue_of block d h) (length_ring block d _ _)

module _ (old new : List ℕ) where
  -- a ring of which no number that is read changes
  pub ring_same : (d place n : ℕ) → ((k : ℕ) → k < n → get_or new (10 * d + (place + k) % 8) 0 ≡ get_or old (10 * d + (place + k) % 8) 0) →
      ring new d place n ≡ ring old d place n
  unfolding ring
  ring_same d place zero h = refl
  ring_same d place (suc n) h =
      ap₂ ◌∷◌ (let e : place + 0 ≡ place = omega arith in rw e at (h 0 (omega arith)))
      (ring_same d (place + 1) n (λ k below. let e : place + 1 + k ≡ place + suc k = omega arith in rw e (h (suc k) (omega arith))))

  -- the queue of a depositor none of whose ten numbers changes
  pub queue_same : (d : ℕ) → ((k : ℕ) → k < 10 → get_or new (10 * d + k) 0 ≡ get_or old (10 * d + k) 0) → queue_in new d ≡ queue_in old d
  queue_same d h = rw (h 8 (omega arith), h 9 (omega arith)) (ring_same d _ _ (λ k below. h _ (omega arith)))

  -- one queue becomes q, and the others stay
  pub queues_changed : (d : ℕ) (q : List ℕ) → d < 16 → queue_in new d ≡ q
      → ((i : ℕ) → i < 16 → (i ≡ d → ⊥) → queue_in new i ≡ queue_in old i) → queues_in new 0 16 ≡ set (queues_in old 0 16) d q
  queues_changed d q h here others =
      ext_get_or [] _ _ (simp (length-set, length_queues)) (λ i below. at i (rw length_queues at below))
    where
      at : (i : ℕ) → i < 16 → get_or (queues_in new 0 16) i [] ≡ get_or (set (queues_in old 0 16) d q) i []
      at i below = elim (ℕ_discrete i d) [
        | yes e ↦ rw e (queue_of new d h ∙ here ∙ sym (get_or-set_same (queues_in old 0 16) d q [] (rw length_queues h)))
        | no e ↦ queue_of new i below ∙ others i below e ∙ sym (queue_of old i below) ∙ sym (get_or-set_other (queues_in old 0 16) d i q [] e)
      ]
