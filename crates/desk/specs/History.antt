-- What happened at a desk, and what can be read off it: who handed in what, who was served, who waits.
use Rattle.std.specs.Prelude.{cond, ℕ, ◌+◌, ◌%◌, eqb, length, drop}
use mathlib.Core.List.{List, [], ◌∷◌, flat_map}
use Rattle.desk.specs.Desk.{Desk, Call, Event, accepted, refused, served, idle, fresh, step}

-- the calls with their answers, the first call first
abbrev pub History : Type 0
History = List Event

-- what happens on these calls, from a desk on
unfoldable pub events : Desk → List Call → History
events desk [] = []
events desk (c ∷ calls) = (step desk c).event ∷ events (step desk c).desk calls

-- the desk after these calls
unfoldable pub after : Desk → List Call → Desk
after desk [] = desk
after desk (c ∷ calls) = after (step desk c).desk calls

-- what happened on these calls of a fresh desk; then on one more; then on more of them
abbrev pub happened : List Call → History
happened calls = events fresh calls

abbrev pub happens_next : List Call → Call → Event
happens_next calls c = (step (after fresh calls) c).event

abbrev pub happens_then : List Call → List Call → History
happens_then calls more = events (after fresh calls) more

-- the sheet where it is depositor d's
abbrev pub of_depositor : ℕ → ℕ → ℕ → List ℕ
of_depositor d e s = cond (eqb e d) (s ∷ []) []

abbrev pub accepted_by : ℕ → Event → List ℕ
accepted_by d (accepted e s) = of_depositor d e s
accepted_by d (refused e s r) = []
accepted_by d (served e s) = []
accepted_by d idle = []

abbrev pub served_by : ℕ → Event → List ℕ
served_by d (accepted e s) = []
served_by d (refused e s r) = []
served_by d (served e s) = of_depositor d e s
served_by d idle = []

-- the sheets of depositor d that were accepted, and those that were served, in order
abbrev pub accepted_of : ℕ → History → List ℕ
accepted_of d h = flat_map (accepted_by d) h

abbrev pub served_of : ℕ → History → List ℕ
served_of d h = flat_map (served_by d) h

-- the sheets of depositor d that wait: the accepted ones, less as many as were served
abbrev pub waiting_of : ℕ → History → List ℕ
waiting_of d h = drop (length (served_of d h)) (accepted_of d h)

-- 1 for a turn, and 0 for a hand-in
abbrev pub one_if_turn : Event → ℕ
one_if_turn (accepted d s) = 0
one_if_turn (refused d s r) = 0
one_if_turn (served d s) = 1
one_if_turn idle = 1

-- how many turns there were
unfoldable pub turns_in : History → ℕ
turns_in [] = 0
turns_in (e ∷ h) = one_if_turn e + turns_in h

-- the depositor at whom a turn looks first once e has happened, where it was `first` before: the one after a served one
abbrev pub next_by : ℕ → Event → ℕ
next_by first (accepted d s) = first
next_by first (refused d s r) = first
next_by first (served d s) = (d + 1) % 16
next_by first idle = first

unfoldable pub next_from : ℕ → History → ℕ
next_from first [] = first
next_from first (e ∷ h) = next_from (next_by first e) h

-- from a fresh desk: the depositor after the one last served, and 0 where none was
abbrev pub next_of : History → ℕ
next_of h = next_from 0 h
