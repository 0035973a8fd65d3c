-- What holds over any calls from a fresh desk.
use Rattle.laws.proofs.Prelude.{◌≡◌, refl, sym, ◌∙◌, ap, ◌↔◌, List, [], ◌∷◌, ◌++◌, append-nil, ℕ, suc, ◌+◌, ◌-◌, ◌%◌, ◌<◌, arith, eq-eqb, length}
use Rattle.laws.proofs.Prelude.{get_or-eq_default}
use mathlib.Core.List.{nil≢cons}
use native.Mathlib.Decide.{dec_le}
use Rattle.desk.specs.Desk.{Desk, Call, hand_in, turn, Event, served, idle, Done, fresh, queue, looked_at, step}
use Rattle.desk.specs.History.{History, events, after, happened, happens_next, waiting_of, turns_in}
use Rattle.desk.specs.Fair.{HandInAnswer, TurnAnswer, ServedWithin, Freed, Fair}
use Rattle.desk.proofs.Outcomes.{Outcome, outcome, desk_left, accepted_there}
use Rattle.desk.proofs.Outcomes as outcomes
use Rattle.desk.proofs.Histories.{Agrees, agrees_fresh, waiting_is, next_below, moves, after_one}
use Rattle.desk.proofs.Soon.{one_of_sixteen, looked_at_lem, sooner, served_soon}

-- what one call is answered, by the way that it goes
module _ {h : History} {desk : Desk} (a : Agrees h desk) where
  hand_in_right : {d s : ℕ} {done : Done} → Outcome desk (hand_in d s) done → HandInAnswer h d s done.event
  hand_in_right (outcomes.over o) = HandInAnswer.over o
  hand_in_right {d} (outcomes.full b e) = HandInAnswer.full b (rw (waiting_is a d) (let few = a.few d in omega arith))
  hand_in_right {d} (outcomes.room b l) = HandInAnswer.room b (rw (waiting_is a d) l)

  below : desk.next < 16
  below = rw a.next_is at (next_below 0 h (omega arith))

  nobody_waits : ((k : ℕ) → k < 16 → queue desk (looked_at desk k) ≡ []) → (d : ℕ) → queue desk d ≡ []
  nobody_waits none d = elim (dec_le 16 d) [
    | yes o ↦ get_or-eq_default desk.queues [] (let long = a.sixteen in omega arith)
    | no l ↦ sym (ap (queue desk) (looked_at_lem desk d below (omega arith))) ∙ none _ (omega arith)
  ]

  turn_right : {done : Done} → Outcome desk turn done → TurnAnswer h done.event
  turn_right (outcomes.front passed few none e) =
      TurnAnswer.front (record {
        passed = passed;
        few = few;
        reached = ap (λ n. (n + passed) % 16) (sym a.next_is);
        none_before = λ k low. waiting_is a _ ∙ ap (λ n. queue desk ((n + k) % 16)) a.next_is ∙ none k low;
      }) (waiting_is a _ ∙ e)
  turn_right (outcomes.nobody none) = TurnAnswer.nobody (λ d. waiting_is a d ∙ nobody_waits none d)

  -- how many depositors are looked at before d
  abbrev distance : ℕ → ℕ
  distance d = (d + 16 - desk.next) % 16

  soon_right : (d s : ℕ) (rest : List ℕ) (more : List Call) → waiting_of d h ≡ s ∷ rest → distance d < turns_in (events desk more)
      → ServedWithin (suc (distance d)) d s (events desk more)
  soon_right d s rest more e enough =
      let there = sym (waiting_is a d) ∙ e in
      let few = one_of_sixteen desk d a.sixteen there in
      served_soon d s desk (distance d) more
      (record { long = a.sixteen; few = omega arith; reached = looked_at_lem desk d below few; rest = rest; at_front = there }) enough

idle_exactly : {h : History} {e : Event} → TurnAnswer h e → (e ≡ idle) ↔ ((d : ℕ) → waiting_of d h ≡ [])
idle_exactly (TurnAnswer.front {d} n w) = (λ e. let z : ◌≡◌ {A = ℕ} 0 1 = cc in absurd (omega arith), λ none. absurd (nil≢cons (sym (none d) ∙ w)))
idle_exactly (TurnAnswer.nobody none) = (λ e. none, λ n. refl)

freed_right : (calls : List Call) (d s : ℕ) → happens_next calls turn ≡ served d s → Freed calls d s
freed_right calls d s e = record {
  rest = waiting_is a d ∙ went ∙ ap (λ q. s ∷ q) (sym (waiting_is (agrees_fresh (calls ++ turn ∷ [])) d));
  room = λ t. accepted_there (outcome (after fresh (calls ++ turn ∷ [])) (hand_in d t)) (one_of_sixteen desk d a.sixteen went)
      (let few = a.few d in let less = ap length went in omega arith);
}
  where
    desk : Desk
    desk = after fresh calls

    a : Agrees (happened calls) desk
    a = agrees_fresh calls

    -- the front sheet went
    went : queue desk d ≡ s ∷ queue (after fresh (calls ++ turn ∷ [])) d
    went = rw after_one (rw (e, eq-eqb d d refl, append-nil) at (moves desk turn (step desk turn) a.sixteen (outcome desk turn) d).sheets)

pub fair : Fair
fair = record {
  hand_ins = λ calls d s. hand_in_right (agrees_fresh calls) (outcome (after fresh calls) (hand_in d s));
  at_most_8 = λ calls d. rw (waiting_is (agrees_fresh calls) d) ((agrees_fresh calls).few d);
  turns = λ calls. turn_right (agrees_fresh calls) (outcome (after fresh calls) turn);
  idle = λ calls. idle_exactly (turn_right (agrees_fresh calls) (outcome (after fresh calls) turn));
  soon = λ calls more d s rest e enough. sooner (omega arith) (soon_right (agrees_fresh calls) d s rest more e (omega arith));
  freed = freed_right;
  in_order = λ calls d. rw (waiting_is (agrees_fresh calls) d) ((agrees_fresh calls).sheets d);
  unchanged = λ calls c e more. ap (λ k. events k more) (after_one calls c ∙ desk_left (outcome (after fresh calls) c) e);
}
