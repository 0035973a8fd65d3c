-- What a call on a block does, by the way that the code goes.
use Rattle.std.specs.Prelude.{Some, None}
use Rattle.laws.proofs.Prelude.{◌≡◌, refl, sym, ◌∙◌, ap, false, true≢false, List, ℕ, ◌≤◌, ◌<◌, arith, lt-ltb, le-ltb, le-leb, lt-leb, length, get_or}
use Rattle.desk.specs.Desk.{Call, hand_in, turn, Event, accepted, refused, served, idle, changes, Done, queue, with_sheet, without_front, no_depositor}
use Rattle.desk.specs.Desk.{eight_waiting, handed_in, first_waiting, serve, turned, step}
use Rattle.desk.specs.Block.{count_in, desk_as, Does}
use Rattle.desk.proofs.{Rings.length_queue_of, Outcomes.outcome, Outcomes.served_one, Histories.after_one}

does : (c : Call) (block : List ℕ) (e : Event) (behind : List ℕ) → ◌≡◌ {A = Done} (record { desk = desk_as behind; event = e }) (step (desk_as block) c)
    → (changes e ≡ false → behind ≡ block) → Does c block e behind
does c block e behind steps left = record {
  steps = steps;
  stands = λ calls here. (
    ap (λ (k : Done). k.desk) steps ∙ ap (λ k. (step k c).desk) here ∙ sym (after_one calls c),
    ap (λ (k : Done). k.event) steps ∙ ap (λ k. (step k c).event) here,
  );
  left = left;
}

module _ (block : List ℕ) (d s : ℕ) where
  pub refuses_over : 15 < d → Does (hand_in d s) block (refused d s no_depositor) block
  unfolding handed_in
  refuses_over h = does _ _ _ _ (rw (lt-ltb 15 d h) refl) (λ e. refl)

  module _ (here : d ≤ 15) where
    waits : length (queue (desk_as block) d) ≡ count_in block d
    waits = length_queue_of block d (omega arith)

    pub refuses_full : 8 ≤ count_in block d → Does (hand_in d s) block (refused d s eight_waiting) block
    unfolding handed_in
    refuses_full h = does _ _ _ _ (rw (le-ltb 15 d here, waits, le-leb 8 (count_in block d) h) refl) (λ e. refl)

    pub accepts : (behind : List ℕ) → count_in block d < 8 → desk_as behind ≡ with_sheet (desk_as block) d s → Does (hand_in d s) block (accepted d s) behind
    unfolding handed_in
    accepts behind h put =
        does _ _ _ _ (rw (le-ltb 15 d here, waits, lt-leb 8 (count_in block d) h) (ap (λ k. record { desk = k; event = accepted d s }) put))
        (λ e. absurd (true≢false e))

module _ (block : List ℕ) where
  pub finds_nobody : first_waiting (desk_as block) 0 16 ≡ None → Does turn block idle block
  unfolding turned
  finds_nobody e = does _ _ _ _ (ap (serve (desk_as block)) (sym e)) (λ f. refl)

  module _ (d : ℕ) (e : first_waiting (desk_as block) 0 16 ≡ Some d) where
    pub found_one : (d < 16) × (0 < count_in block d)
    unfolding turned
    found_one =
        let one = served_one (outcome (desk_as block) turn) (ap (λ o. (serve (desk_as block) o).event) e) in
        (one.0, rw (length_queue_of block d one.0) at one.1)

    pub serves : (behind : List ℕ) (s : ℕ) → desk_as behind ≡ without_front (desk_as block) d → s ≡ get_or (queue (desk_as block) d) 0 0 →
        Does turn block (served d s) behind
    unfolding turned
    serves behind s gone at_front =
        does _ _ _ _ ((λ i. record { desk = gone i; event = served d (at_front i) }) ∙ ap (serve (desk_as block)) (sym e)) (λ e. absurd (true≢false e))
