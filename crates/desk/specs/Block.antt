-- The desk that a lent block of 161 numbers stands for: ten numbers for each depositor, and last the depositor at whom the next turn looks first.
-- The ten of depositor d, from 10 × d on: a ring of 8 sheets, the place of the front sheet there, and how many wait.
-- Each block stands for a desk: a place counts modulo 8, more than 8 sheets count for 8, and the next depositor modulo 16.
use Rattle.std.specs.Prelude.{◌≡◌, false, List, [], ◌∷◌, ◌++◌, ℕ, zero, suc, ◌+◌, ◌*◌, ◌%◌, ◌^◌, min, get_or, Option, Some, None, Result, Ok, Err}
use Rattle.desk.specs.declared.Refused.{Refused}
use Rattle.desk.specs.declared.Refused.TheVariants.{NoDepositor, EightWaiting}
use Rattle.desk.specs.declared.Served.{Served}
use Rattle.desk.specs.Desk.{Desk, Call, Event, accepted, refused, served, idle, changes, no_depositor, eight_waiting, fresh, step}
use Rattle.desk.specs.History.{happens_next, after}

-- n sheets of depositor d from a place on, round the ring
unfoldable pub ring : List ℕ → ℕ → ℕ → ℕ → List ℕ
ring block d place zero = []
ring block d place (suc n) = get_or block (10 * d + place % 8) 0 ∷ ring block d (place + 1) n

abbrev pub count_in : List ℕ → ℕ → ℕ
count_in block d = min (get_or block (10 * d + 9) 0) 8

abbrev pub queue_in : List ℕ → ℕ → List ℕ
queue_in block d = ring block d (get_or block (10 * d + 8) 0) (count_in block d)

-- the queues of n depositors from d on
unfoldable pub queues_in : List ℕ → ℕ → ℕ → List (List ℕ)
queues_in block d zero = []
queues_in block d (suc n) = queue_in block d ∷ queues_in block (d + 1) n

abbrev pub desk_as : List ℕ → Desk
desk_as block = record { queues = queues_in block 0 16; next = get_or block 160 0 % 16 }

-- what the code answers
abbrev pub HandedIn : Type 0
HandedIn = Result (Unit {0}) Refused

abbrev pub Turned : Type 0
Turned = Option Served

abbrev pub number_of : Refused → ℕ
number_of NoDepositor = no_depositor
number_of EightWaiting = eight_waiting

abbrev pub handed_in_as : ℕ → ℕ → HandedIn → Event
handed_in_as d s (Ok u) = accepted d s
handed_in_as d s (Err r) = refused d s (number_of r)

abbrev pub turned_as : Turned → Event
turned_as None = idle
turned_as (Some k) = served k.depositor k.sheet

-- the block stands for the desk after these calls of a fresh desk
abbrev pub Stands : List Call → List ℕ → Type 0
Stands calls block = desk_as block ≡ after fresh calls

-- a call on any block `before` is so answered, and leaves the block `behind`
pub record Does (c : Call) (before : List ℕ) (e : Event) (behind : List ℕ) : Type 0 where
  -- the desk that the block stands for does one step
  pub steps : record { desk = desk_as behind; event = e } ≡ step (desk_as before) c
  -- a block that stood for the desk after some calls stands for the desk after those and this one, and the answer is that desk's
  pub stands : (calls : List Call) → Stands calls before → Stands (calls ++ c ∷ []) behind × (e ≡ happens_next calls c)
  -- a refusal and an idle turn leave every number as it was
  pub left : changes e ≡ false → behind ≡ before

-- the answers in one number, for C: 0 or the refusal's number; the sheet and 2 ^ 32 times the depositor, where 16 stands for idle
abbrev pub handed_in_number : HandedIn → ℕ
handed_in_number (Ok u) = 0
handed_in_number (Err r) = number_of r

abbrev pub turned_number : Turned → ℕ
turned_number None = 2 ^ 32 * 16
turned_number (Some k) = 2 ^ 32 * k.depositor + k.sheet
