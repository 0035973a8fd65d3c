-- The ways in which a call can go, each with what holds where it is taken.
use Rattle.laws.proofs.Prelude.{◌≡◌, refl, false, true≢false, List, [], ◌∷◌, ℕ, zero, suc, ◌+◌, ◌≤◌, ◌<◌, arith, lt-ltb, le-ltb, le-leb, lt-leb, length}
use native.Mathlib.Decide.{dec_le}
use borrow.Author.Count.{below_none, below_more}
use Rattle.desk.specs.Desk.{Desk, Call, hand_in, turn, Done, accepted, refused, served, idle, changes, queue, with_sheet, without_front, no_depositor}
use Rattle.desk.specs.Desk.{eight_waiting, handed_in, turned, looked_at, first_waiting, serve, step}

pub data Outcome (desk : Desk) : Call → Done → Type 0 where
  over : {d s : ℕ} → 15 < d → Outcome desk (hand_in d s) (record { desk = desk; event = refused d s no_depositor })
  full : {d s : ℕ} → d ≤ 15 → 8 ≤ length (queue desk d) → Outcome desk (hand_in d s) (record { desk = desk; event = refused d s eight_waiting })
  room : {d s : ℕ} → d ≤ 15 → length (queue desk d) < 8 → Outcome desk (hand_in d s) (record { desk = with_sheet desk d s; event = accepted d s })
  front : {s : ℕ} {rest : List ℕ} (passed : ℕ) → passed < 16 → ((k : ℕ) → k < passed → queue desk (looked_at desk k) ≡ [])
      → queue desk (looked_at desk passed) ≡ s ∷ rest →
      Outcome desk turn (record { desk = without_front desk (looked_at desk passed); event = served (looked_at desk passed) s })
  nobody : ((k : ℕ) → k < 16 → queue desk (looked_at desk k) ≡ []) → Outcome desk turn (record { desk = desk; event = idle })

module _ (desk : Desk) where
  hand_in_outcome : (d s : ℕ) → Outcome desk (hand_in d s) (handed_in desk d s)
  unfolding handed_in
  hand_in_outcome d s = elim (dec_le d 15) [
    | no h ↦ let over_15 : 15 < d = omega arith in rw (lt-ltb 15 d over_15) (over over_15)
    | yes h ↦ elim (dec_le 8 (length (queue desk d))) [
      | yes eight ↦ rw (le-ltb 15 d h, le-leb 8 (length (queue desk d)) eight) (full h eight)
      | no few ↦ let less : length (queue desk d) < 8 = omega arith in rw (le-ltb 15 d h, lt-leb 8 (length (queue desk d)) less) (room h less)
    ]
  ]

  -- once so many were passed, and so many are left
  turn_outcome : (left passed : ℕ) → passed + left ≡ 16 → ((k : ℕ) → k < passed → queue desk (looked_at desk k) ≡ []) →
      Outcome desk turn (serve desk (first_waiting desk passed left))
  unfolding first_waiting
  turn_outcome zero passed all none = nobody (λ k below. none k (omega arith))
  turn_outcome (suc left) passed all none = look (queue desk (looked_at desk passed)) refl
      (λ e. turn_outcome left (passed + 1) (omega arith) (below_more _ passed none e))
    where
      look : (q : List ℕ) → queue desk (looked_at desk passed) ≡ q
          → (queue desk (looked_at desk passed) ≡ [] → Outcome desk turn (serve desk (first_waiting desk (passed + 1) left)))
          → Outcome desk turn (serve desk (first_waiting desk passed (suc left)))
      look [] e on = rw e (on e)
      look (s ∷ rest) e on =
          let waits : 0 < length (queue desk (looked_at desk passed)) = rw e (omega arith) in
          rw (lt-ltb 0 (length (queue desk (looked_at desk passed))) waits, e) (front passed (omega arith) none e)

  pub outcome : (c : Call) → Outcome desk c (step desk c)
  unfolding turned
  outcome (hand_in d s) = hand_in_outcome d s
  outcome turn = turn_outcome 16 0 refl (below_none _)

-- where nothing changes the desk is the same
pub desk_left : {desk : Desk} {c : Call} {done : Done} → Outcome desk c done → changes done.event ≡ false → done.desk ≡ desk
desk_left (over o) e = refl
desk_left (full b f) e = refl
desk_left (room b l) e = absurd (true≢false e)
desk_left (front passed few none f) e = absurd (true≢false e)
desk_left (nobody none) e = refl

-- a depositor with room is accepted
pub accepted_there : {desk : Desk} {d s : ℕ} {done : Done} → Outcome desk (hand_in d s) done → d < 16 → length (queue desk d) < 8 → done.event ≡ accepted d s
accepted_there (over o) b l = absurd (omega arith)
accepted_there (full c f) b l = absurd (omega arith)
accepted_there (room c k) b l = refl

-- who is served has a sheet waiting
pub served_one : {desk : Desk} {done : Done} {d s : ℕ} → Outcome desk turn done → done.event ≡ served d s → (d < 16) × (0 < length (queue desk d))
served_one {desk} {d = d} (front passed few none there) e = let same : looked_at desk passed ≡ d = cc in (omega arith, rw (← same, there) (omega arith))
served_one (nobody none) e = let z : ◌≡◌ {A = ℕ} 0 1 = cc in absurd (omega arith)
