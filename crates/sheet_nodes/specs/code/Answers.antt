-- What is found in a node, made from what is found in others, and the bounds that the answers of the code keep.
use Rattle.std.specs.Prelude.{Bool, false, ◌&&◌, ◌||◌, List, ℕ, ◌+◌, ◌≤◌, ◌<◌, length}
use Rattle.std.specs.Borrow.{Bor}
use Rattle.laws.specs.Decoded.{Decoded}
use Rattle.text.specs.Truth.{one}
use Rattle.wire.specs.code.Views.{ReadResult, read_with, PastWith}
use Rattle.sheet_nodes.specs.declared.tally.Found.{Found}
use Rattle.sheet_nodes.specs.declared.root.WithReach.{WithReach}
use Rattle.sheet_nodes.specs.code.Tallies.{Tally, NodeTally, ArgumentTally, plus}

-- a node that holds none that is walked
abbrev pub leaf_of : Bool → Bool → NodeTally
leaf_of own require = record { entries = one own; uncooked = false; also = record { require = require; template = false } }

-- a node from what was found in those that it holds
abbrev pub with_own : Bool → Bool → Tally → NodeTally
with_own own template t = record (plus (leaf_of own false) t) { also = record { require = false; template = template } }

-- a call: a listed one with an argument has an entry
abbrev pub called_by : NodeTally → ArgumentTally → NodeTally
called_by e p =
    record {
      entries = (plus e p).entries + one (e.also.require && p.also.any);
      uncooked = (plus e p).uncooked || (e.also.require && p.also.template);
      also = record { require = false; template = false };
    }

-- the answer about the root or about its children, without how far entries reach
abbrev pub tally_as : {T : Type 0} → ReadResult (WithReach T) → Decoded T
tally_as = read_with (λ found. found.tally)

-- what holds of what was found, and of the bytes behind it
abbrev pub PastReach : {T : Type 0} → (T → Bor (List ℕ) → Type 0) → ReadResult (WithReach T) → Type 0
PastReach P = PastWith (λ found. P found.tally)

-- what is left of n bytes behind a node: each entry took a byte at least
abbrev pub PastNode : ℕ → NodeTally → Bor (List ℕ) → Type 0
PastNode n j next = (length next.now < n) × (j.entries + length next.now ≤ n)

abbrev pub PastChecked : ℕ → ReadResult NodeTally → Type 0
PastChecked n = PastWith (PastNode n)

-- and behind a head, which took one
abbrev pub PastRest : ℕ → ReadResult NodeTally → Type 0
PastRest n = PastWith (λ j next. (length next.now ≤ n) × (j.entries + length next.now ≤ n + 1))

-- behind so many entries
abbrev pub PastMore : {T : Type 0} → ℕ → Found T → Bor (List ℕ) → Type 0
PastMore n t next = t.entries + length next.now ≤ n

abbrev pub PastTally : {T : Type 0} → ℕ → ReadResult (Found T) → Type 0
PastTally n = PastWith (PastMore n)
