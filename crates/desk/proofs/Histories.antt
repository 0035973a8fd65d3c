-- The desk after some calls, and what was read off what happened until then.
use Rattle.laws.proofs.Prelude.{◌≡◌, refl, sym, ◌∙◌, ap, List, [], ◌∷◌, ◌++◌, append-nil, append_assoc, flat_map, ℕ, zero, suc, ◌+◌, ◌%◌, ◌≤◌, ◌<◌, arith}
use Rattle.laws.proofs.Prelude.{ℕ_discrete, eq-eqb, ne_eqb, length, get_or, set, length-set, length-append, replicate, get_or-set_same, get_or-set_other}
use Rattle.laws.proofs.Prelude.{drop-append_seam}
use lib.Seq.{append_snoc}
use Rattle.laws.proofs.Lists.{flat_map_append}
use Rattle.desk.specs.Desk.{Desk, Call, Event, accepted, refused, served, idle, Done, fresh, queue, with_sheet, without_front, looked_at, step}
use Rattle.desk.specs.History.{History, events, after, happened, accepted_by, served_by, accepted_of, served_of, waiting_of, next_by, next_from, next_of}
use Rattle.desk.proofs.Outcomes.{Outcome, over, full, room, front, nobody, outcome}

after_append : (desk : Desk) (calls more : List Call) → after desk (calls ++ more) ≡ after (after desk calls) more
unfolding after
after_append desk [] more = refl
after_append desk (c ∷ calls) more = after_append (step desk c).desk calls more

-- one more call
pub after_one : (calls : List Call) (c : Call) → after fresh (calls ++ c ∷ []) ≡ (step (after fresh calls) c).desk
unfolding after
after_one calls c = after_append fresh calls (c ∷ [])

next_from_append : (first : ℕ) (h more : History) → next_from first (h ++ more) ≡ next_from (next_from first h) more
unfolding next_from
next_from_append first [] more = refl
next_from_append first (e ∷ h) more = next_from_append (next_by first e) h more

-- what a call does to the sheets of a depositor: one comes behind those that wait, the front one goes, or neither; and 8 stay 8
pub record Moves (old new : List ℕ) (d : ℕ) (e : Event) : Type 0 where
  pub sheets : old ++ accepted_by d e ≡ served_by d e ++ new
  pub few : length old ≤ 8 → length new ≤ 8

stays : (q : List ℕ) {d : ℕ} {e : Event} → accepted_by d e ≡ [] → served_by d e ≡ [] → Moves q q d e
stays q a s = record { sheets = rw (a, s) (append-nil q); few = λ h. h }

-- where the queue of depositor f becomes q, and the call is none of another one's
changed : (queues : List (List ℕ)) (f : ℕ) {q : List ℕ} {e : Event} → f < length queues → Moves (get_or queues f []) q f e
    → ((d : ℕ) → (f ≡ d → ⊥) → (accepted_by d e ≡ []) × (served_by d e ≡ [])) → (d : ℕ) → Moves (get_or queues d []) (get_or (set queues f q) d []) d e
changed queues f {q} here own others d = elim (ℕ_discrete f d) [
  | yes p ↦ rw (← p, get_or-set_same queues f q [] here) own
  | no p ↦ rw (get_or-set_other queues f d q [] (λ x. p (sym x))) (stays _ (others d p).0 (others d p).1)
]

pub moves : (desk : Desk) (c : Call) (done : Done) → length desk.queues ≡ 16 → Outcome desk c done → (d : ℕ) →
    Moves (queue desk d) (queue done.desk d) d done.event
unfolding with_sheet without_front
moves desk c done long (over h) d = stays _ refl refl
moves desk c done long (full h e) d = stays _ refl refl
moves desk c done long (room {d = f} {s = s} h few) d =
    changed desk.queues f (omega arith) (record { sheets = rw (eq-eqb f f refl) refl; few = λ _. rw length-append (omega arith) })
    (λ k p. (rw (ne_eqb f k p) refl, refl)) d
moves desk c done long (front {s = s} {rest = rest} passed h none e) d =
    let f = looked_at desk passed in
    changed desk.queues f (omega arith) (rw e (record { sheets = rw (eq-eqb f f refl) (append-nil (s ∷ rest)); few = λ few. omega arith }))
    (λ k p. (refl, rw (ne_eqb f k p) refl)) d
moves desk c done long (nobody none) d = stays _ refl refl

-- there are as many queues as before, and the next depositor is the one after a served one
pub keeps : (desk : Desk) (c : Call) (done : Done) → Outcome desk c done →
    (length done.desk.queues ≡ length desk.queues) × (next_from desk.next (done.event ∷ []) ≡ done.desk.next)
unfolding with_sheet without_front next_from
keeps desk c done (over h) = (refl, refl)
keeps desk c done (full h e) = (refl, refl)
keeps desk c done (room h few) = (simp length-set, refl)
keeps desk c done (front passed h none e) = (simp length-set, refl)
keeps desk c done (nobody none) = (refl, refl)

-- the queues of a desk, and who is next there, are what is read off the history
pub record Agrees (h : History) (desk : Desk) : Type 0 where
  pub sixteen : length desk.queues ≡ 16
  pub next_is : next_of h ≡ desk.next
  pub sheets : (d : ℕ) → accepted_of d h ≡ served_of d h ++ queue desk d
  pub few : (d : ℕ) → length (queue desk d) ≤ 8

one_more : (f : Event → List ℕ) (h : History) (e : Event) → flat_map f (h ++ e ∷ []) ≡ flat_map f h ++ f e
unfolding flat_map
one_more f h e = flat_map_append f h (e ∷ []) ∙ ap (λ l. flat_map f h ++ l) (append-nil (f e))

agrees_step : (h : History) (desk : Desk) (c : Call) (done : Done) → Agrees h desk → Outcome desk c done → Agrees (h ++ done.event ∷ []) done.desk
agrees_step h desk c done a o = record {
  sixteen = (keeps desk c done o).0 ∙ a.sixteen;
  next_is = next_from_append 0 h (done.event ∷ []) ∙ ap (λ n. next_from n (done.event ∷ [])) a.next_is ∙ (keeps desk c done o).1;
  sheets = λ d. rw (one_more (accepted_by d), one_more (served_by d), a.sheets d) (simp (append_assoc, (moves desk c done a.sixteen o d).sheets));
  few = λ d. (moves desk c done a.sixteen o d).few (a.few d);
}

agrees : (h : History) (desk : Desk) (calls : List Call) → Agrees h desk → Agrees (h ++ events desk calls) (after desk calls)
unfolding events after
agrees h desk [] a = rw append-nil a
agrees h desk (c ∷ calls) a =
    rw append_snoc at (agrees (h ++ (step desk c).event ∷ []) (step desk c).desk calls (agrees_step h desk c (step desk c) a (outcome desk c)))

none_waits : (n d : ℕ) → get_or {A = List ℕ} (replicate n []) d [] ≡ []
none_waits zero d = refl
none_waits (suc n) zero = refl
none_waits (suc n) (suc d) = none_waits n d

pub agrees_fresh : (calls : List Call) → Agrees (happened calls) (after fresh calls)
unfolding next_from flat_map
agrees_fresh calls =
    agrees [] fresh calls (record { sixteen = refl; next_is = refl; sheets = λ d. sym (none_waits 16 d); few = λ d. rw (none_waits 16 d) (omega arith) })

pub waiting_is : {h : History} {desk : Desk} → Agrees h desk → (d : ℕ) → waiting_of d h ≡ queue desk d
waiting_is {h} a d = rw (a.sheets d) (drop-append_seam (served_of d h) _)

-- the next depositor is one of the sixteen
pub next_below : (first : ℕ) (h : History) → first < 16 → next_from first h < 16
unfolding next_from
next_below first [] b = b
next_below first (accepted d s ∷ h) b = next_below first h b
next_below first (refused d s r ∷ h) b = next_below first h b
next_below first (served d s ∷ h) b = next_below ((d + 1) % 16) h (omega arith)
next_below first (idle ∷ h) b = next_below first h b
