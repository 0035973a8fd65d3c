-- Which match is preferred, with no matcher: the leftmost; from there each longest run as long as can be, each shortest one as short, and the first
-- alternative wherever it matches.
use Rattle.std.specs.Prelude.{◌≡◌, Bool, List, ◌↔◌, ℕ, ◌≤◌, ◌<◌, length, Option, Some, None}
use Rattle.text.specs.declared.class.Class.{Class}
use Rattle.text.specs.Characters.{OneOf, Stands}
use Rattle.analysis.specs.declared.Capture.{Capture}
use Rattle.analysis.specs.Row.{Row, no_capture}
use Rattle.analysis.specs.Matches.{Spelled, Run, Matches, RowReading}

module _ (s : List ℕ) where
  -- the row has no match from the place on
  abbrev pub NoMatch : Row → ℕ → Capture → Type 0
  NoMatch r at k = (end : ℕ) (l : Capture) → Matches s r at end k l → ⊥

  -- the row matches from one place to the other, and no other match from there on is preferred to this one
  pub data Prefers : Row → ℕ → ℕ → Capture → Capture → Type 0 where
    done : {at : ℕ} {k : Capture} → Prefers Row.done at at k k
    start : {r : Row} {at end : ℕ} {k l : Capture} → at ≡ 0 → Prefers r at end k l → Prefers (Row.start r) at end k l
    word : {w : List ℕ} {r : Row} {at e end : ℕ} {k l : Capture} → Spelled s w at e
        → Prefers r e end k l → Prefers (Row.word w r) at end k l
    one : {c : Class} {r : Row} {at e end : ℕ} {k l : Capture} → Stands (OneOf c) s at e
        → Prefers r e end k l → Prefers (Row.one c r) at end k l
    longest : {c : Class} {r : Row} {at e end : ℕ} {k l : Capture} → Run s c at e
        → ((d : ℕ) → e < d → Run s c at d → NoMatch r d k)  -- no longer run will do
        → Prefers r e end k l → Prefers (Row.longest c r) at end k l
    shortest : {c : Class} {r : Row} {at e end : ℕ} {k l : Capture} → Run s c at e
        → ((d : ℕ) → d < e → Run s c at d → NoMatch r d k)  -- no shorter run will do
        → Prefers r e end k l → Prefers (Row.shortest c r) at end k l
    from : {quoted : Bool} {r : Row} {at end : ℕ} {k l : Capture}
        → Prefers r at end (record { quoted = quoted; from = at; to = k.to }) l → Prefers (Row.from quoted r) at end k l
    to : {r : Row} {at end : ℕ} {k l : Capture}
        → Prefers r at end (record { quoted = k.quoted; from = k.from; to = at }) l → Prefers (Row.to r) at end k l
    left : {a b : Row} {at end : ℕ} {k l : Capture} → Prefers a at end k l → Prefers (Row.either a b) at end k l
    right : {a b : Row} {at end : ℕ} {k l : Capture} → NoMatch a at k → Prefers b at end k l → Prefers (Row.either a b) at end k l

-- the preferred match in a body captures k
pub record Preferred (r : Row) (s : List ℕ) (k : Capture) : Type 0 where
  pub at : ℕ
  pub inside : at ≤ length s
  pub end : ℕ
  pub prefers : Prefers s r at end no_capture k
  pub leftmost : (p : ℕ) → p < at → NoMatch s r p no_capture

-- the answer is the preferred match, and there is none exactly where the row matches nowhere
pub record Finds (r : Row) (s : List ℕ) (answer : Option Capture) : Type 0 where
  pub some : (k : Capture) → (answer ≡ Some k) ↔ Preferred r s k
  pub none : (answer ≡ None) ↔ ((k : Capture) → RowReading r s k → ⊥)
