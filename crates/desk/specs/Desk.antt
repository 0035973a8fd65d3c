-- A desk at which sixteen depositors, 0 to 15, hand in sheets, and what each call does there (request #110).
use Rattle.std.specs.Prelude.{Bool, true, false, cond, List, [], ◌∷◌, ◌++◌, ℕ, zero, suc, ◌+◌, ◌%◌, ltb, leb, length, get_or, drop, set}
use Rattle.std.specs.Prelude.{replicate, Option, Some, None}

-- the waiting sheets of each depositor, the front sheet first, and the depositor at whom the next turn looks first
pub record Desk : Type 0 where
  pub queues : List (List ℕ)
  pub next : ℕ

abbrev pub queue : Desk → ℕ → List ℕ
queue desk d = get_or desk.queues d []

-- nobody waits, and depositor 0 is looked at first
abbrev pub fresh : Desk
fresh = record { queues = replicate 16 []; next = 0 }

pub data Call : Type 0 where
  hand_in : (depositor sheet : ℕ) → Call
  turn : Call

-- a call with its answer
pub data Event : Type 0 where
  accepted : (depositor sheet : ℕ) → Event
  refused : (depositor sheet number : ℕ) → Event
  served : (depositor sheet : ℕ) → Event
  idle : Event

-- whether it changes the desk: a refusal and an idle turn do not
abbrev pub changes : Event → Bool
changes (accepted d s) = true
changes (refused d s r) = false
changes (served d s) = true
changes idle = false

-- the desk after a call, and the call with its answer
pub record Done : Type 0 where
  pub desk : Desk
  pub event : Event

-- a sheet goes behind those that wait
unfoldable pub with_sheet : Desk → ℕ → ℕ → Desk
with_sheet desk d s = record { queues = set desk.queues d (queue desk d ++ s ∷ []); next = desk.next }

-- the numbers of the refusals: a depositor over 15; one with 8 waiting
abbrev pub no_depositor : ℕ
no_depositor = 14

abbrev pub eight_waiting : ℕ
eight_waiting = 15

-- these in turn, or the sheet waits
unfoldable pub handed_in : Desk → ℕ → ℕ → Done
handed_in desk d s =
    cond (ltb 15 d) (record { desk = desk; event = refused d s no_depositor })
    (cond (leb 8 (length (queue desk d))) (record { desk = desk; event = refused d s eight_waiting })
    (record { desk = with_sheet desk d s; event = accepted d s }))

-- the depositor whom a turn looks at once it has passed so many; after 15 comes 0
abbrev pub looked_at : Desk → ℕ → ℕ
looked_at desk passed = (desk.next + passed) % 16

-- the first who has a sheet waiting, once so many were passed and while so many are left
unfoldable pub first_waiting : Desk → ℕ → ℕ → Option ℕ
first_waiting desk passed zero = None
first_waiting desk passed (suc left) = cond (ltb 0 (length (queue desk (looked_at desk passed)))) (Some (looked_at desk passed))
    (first_waiting desk (passed + 1) left)

-- the front sheet of depositor d goes, and the next turn looks first at the depositor after d
unfoldable pub without_front : Desk → ℕ → Desk
without_front desk d = record { queues = set desk.queues d (drop 1 (queue desk d)); next = (d + 1) % 16 }

-- the depositor who was found is served; where none was, the turn is idle
abbrev pub serve : Desk → Option ℕ → Done
serve desk None = record { desk = desk; event = idle }
serve desk (Some d) = record { desk = without_front desk d; event = served d (get_or (queue desk d) 0 0) }

unfoldable pub turned : Desk → Done
turned desk = serve desk (first_waiting desk 0 16)

abbrev pub step : Desk → Call → Done
step desk (hand_in d s) = handed_in desk d s
step desk turn = turned desk
