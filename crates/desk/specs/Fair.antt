-- What holds over any calls from a fresh desk (request #110), said of the calls and their answers alone.
use Rattle.std.specs.Prelude.{◌≡◌, false, ◌↔◌, List, [], ◌∷◌, ◌++◌, ℕ, ◌+◌, ◌%◌, ◌≤◌, ◌<◌, length}
use Rattle.desk.specs.Desk.{Call, hand_in, turn, Event, accepted, refused, served, idle, changes, no_depositor, eight_waiting}
use Rattle.desk.specs.History.{History, happened, happens_next, happens_then, accepted_of, served_of, waiting_of, turns_in, next_of}

-- what a hand-in of sheet s by depositor d is answered once h has happened
pub data HandInAnswer (h : History) (d s : ℕ) : Event → Type 0 where
  over : 15 < d → HandInAnswer h d s (refused d s no_depositor)
  full : d ≤ 15 → length (waiting_of d h) ≡ 8 → HandInAnswer h d s (refused d s eight_waiting)
  room : d ≤ 15 → length (waiting_of d h) < 8 → HandInAnswer h d s (accepted d s)

-- d is the next depositor, after the one last served, who has a sheet waiting: those who were passed have none
pub record NextWaiting (h : History) (d : ℕ) : Type 0 where
  pub passed : ℕ
  pub few : passed < 16
  pub reached : d ≡ (next_of h + passed) % 16
  pub none_before : (k : ℕ) → k < passed → waiting_of ((next_of h + k) % 16) h ≡ []

-- what a turn is answered once h has happened
pub data TurnAnswer (h : History) : Event → Type 0 where
  front : {d s : ℕ} {rest : List ℕ} → NextWaiting h d → waiting_of d h ≡ s ∷ rest → TurnAnswer h (served d s)
  nobody : ((d : ℕ) → waiting_of d h ≡ []) → TurnAnswer h idle

-- one of the first so many turns serves sheet s to depositor d, and none before it serves d
pub record ServedWithin (turns d s : ℕ) (h : History) : Type 0 where
  pub before : History
  pub behind : History
  pub split : h ≡ before ++ served d s ∷ behind
  pub not_before : served_of d before ≡ []
  pub in_time : turns_in before < turns

-- a turn after these calls serves sheet s to depositor d, and frees its place: the other sheets of d wait, and a further one is accepted
pub record Freed (calls : List Call) (d s : ℕ) : Type 0 where
  pub rest : waiting_of d (happened calls) ≡ s ∷ waiting_of d (happened (calls ++ turn ∷ []))
  pub room : (t : ℕ) → happens_next (calls ++ turn ∷ []) (hand_in d t) ≡ accepted d t

-- nothing is changed by one more call: all further calls are answered as without it
abbrev pub NoChange : List Call → Call → Type 0
NoChange calls c = (more : List Call) → happens_then (calls ++ c ∷ []) more ≡ happens_then calls more

-- what request #110 asks over any calls from a fresh desk
pub record Fair : Type 0 where
  -- a hand-in gets 14 for a depositor over 15, then 15 for one with 8 waiting, and else is accepted
  pub hand_ins : (calls : List Call) (d s : ℕ) → HandInAnswer (happened calls) d s (happens_next calls (hand_in d s))
  -- at most 8 sheets of a depositor wait
  pub at_most_8 : (calls : List Call) (d : ℕ) → length (waiting_of d (happened calls)) ≤ 8
  -- a turn serves the front sheet of the next depositor who has any
  pub turns : (calls : List Call) → TurnAnswer (happened calls) (happens_next calls turn)
  -- with none waiting it is idle, and never otherwise
  pub idle : (calls : List Call) → (happens_next calls turn ≡ idle) ↔ ((d : ℕ) → waiting_of d (happened calls) ≡ [])
  -- a sheet at the front of its queue is served within 16 turns, whatever calls come between them
  pub soon : (calls more : List Call) (d s : ℕ) (rest : List ℕ) → waiting_of d (happened calls) ≡ s ∷ rest
      → 16 ≤ turns_in (happens_then calls more) → ServedWithin 16 d s (happens_then calls more)
  -- a served place is free again
  pub freed : (calls : List Call) (d s : ℕ) → happens_next calls turn ≡ served d s → Freed calls d s
  -- served in the order accepted, each exactly as often as it was accepted and is not still waiting
  pub in_order : (calls : List Call) (d : ℕ) → accepted_of d (happened calls) ≡ served_of d (happened calls) ++ waiting_of d (happened calls)
  -- a refused hand-in and an idle turn change nothing
  pub unchanged : (calls : List Call) (c : Call) → changes (happens_next calls c) ≡ false → NoChange calls c
