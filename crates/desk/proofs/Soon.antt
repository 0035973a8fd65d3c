-- A sheet at the front of its queue is served soon: each turn that serves another depositor brings its own nearer.
use Rattle.laws.proofs.Prelude.{◌≡◌, refl, sym, ◌∙◌, ap, List, [], ◌∷◌, ◌++◌, flat_map, ℕ, suc, ◌+◌, ◌-◌, ◌%◌, ◌≤◌, ◌<◌, arith, ℕ_discrete, ne_eqb, length}
use Rattle.laws.proofs.Prelude.{get_or-eq_default}
use mathlib.Core.{Path.ap₂, List.head-eq_of_cons-eq, List.nil≢cons}
use native.Mathlib.Decide.{dec_le}
use Rattle.desk.specs.Desk.{Desk, Call, Event, served, Done, queue, looked_at, with_sheet, without_front, step}
use Rattle.desk.specs.History.{History, events, accepted_by, served_by, one_if_turn, turns_in}
use Rattle.desk.specs.Fair.{ServedWithin}
use Rattle.desk.proofs.Outcomes.{Outcome, over, full, room, front, nobody, outcome}
use Rattle.desk.proofs.Histories.{moves, keeps}

-- who has a sheet waiting is one of the sixteen
pub one_of_sixteen : (desk : Desk) (d : ℕ) {s : ℕ} {rest : List ℕ} → length desk.queues ≡ 16 → queue desk d ≡ s ∷ rest → d < 16
one_of_sixteen desk d long e = elim (dec_le 16 d) [
  | yes h ↦ absurd (nil≢cons (sym (get_or-eq_default desk.queues [] (omega arith)) ∙ e))
  | no h ↦ omega arith
]

-- and is looked at after so many
pub looked_at_lem : (desk : Desk) (d : ℕ) → desk.next < 16 → d < 16 → looked_at desk ((d + 16 - desk.next) % 16) ≡ d
looked_at_lem desk d b h = omega arith

-- of two who are looked at one after the other, and how far the later one is from who follows the earlier one
apart : (next k n : ℕ) → k < n → n < 16 → (next + k) % 16 ≡ (next + n) % 16 → ⊥
apart next k n l few e = omega arith

nearer : (next k n : ℕ) → k < n → (((next + k) % 16 + 1) % 16 + (n - suc k)) % 16 ≡ (next + n) % 16
nearer next k n l = omega arith

-- more turns are allowed
pub sooner : {m n d s : ℕ} {h : History} → m ≤ n → ServedWithin m d s h → ServedWithin n d s h
sooner more w = record { before = w.before; behind = w.behind; split = w.split; not_before = w.not_before; in_time = let l = w.in_time in omega arith }

-- one event more before it
later : {m n d s : ℕ} {h : History} (e : Event) → served_by d e ≡ [] → one_if_turn e + m ≤ n → ServedWithin m d s h → ServedWithin n d s (e ∷ h)
unfolding turns_in flat_map
later e none more w = record {
  before = e ∷ w.before;
  behind = w.behind;
  split = ap (λ h. e ∷ h) w.split;
  not_before = rw none w.not_before;
  in_time = let l = w.in_time in omega arith;
}

module _ (d s : ℕ) where
  -- depositor d, of whom sheet s is at the front, is looked at after n others
  pub record Near (desk : Desk) (n : ℕ) : Type 0 where
    pub long : length desk.queues ≡ 16
    pub few : n < 16
    pub reached : looked_at desk n ≡ d
    pub rest : List ℕ
    pub at_front : queue desk d ≡ s ∷ rest

  -- so some sheet waits there
  some_there : {desk : Desk} {n : ℕ} → Near desk n → queue desk (looked_at desk n) ≡ [] → ⊥
  some_there {desk} near none = nil≢cons (sym none ∙ ap (queue desk) near.reached ∙ near.at_front)

  -- a call that does not serve d leaves s at the front
  still : {desk : Desk} {n m : ℕ} {c : Call} {done : Done} → Near desk n → Outcome desk c done → served_by d done.event ≡ [] → m < 16 →
      looked_at done.desk m ≡ d → Near done.desk m
  still {desk} {c = c} {done = done} near o none few reached = record {
    long = (keeps desk c done o).0 ∙ near.long;
    few = few;
    reached = reached;
    rest = near.rest ++ accepted_by d done.event;
    at_front = rw (none, near.at_front) at (sym (moves desk c done near.long o d).sheets);
  }

  -- a turn that serves the depositor it looks at after so many
  turn_nearer : (desk : Desk) (n passed : ℕ) {t : ℕ} {rest : List ℕ} (h : History) → Near desk n → passed < 16 →
      ((k : ℕ) → k < passed → queue desk (looked_at desk k) ≡ [])
      → queue desk (looked_at desk passed) ≡ t ∷ rest → n < suc (turns_in h)
      → ((m : ℕ) → Near (without_front desk (looked_at desk passed)) m → m < turns_in h → ServedWithin (suc m) d s h) →
      ServedWithin (suc n) d s (served (looked_at desk passed) t ∷ h)
  unfolding turns_in without_front flat_map
  turn_nearer desk n passed {t} h near few none e enough on = elim (ℕ_discrete passed n) [
    | yes p ↦ record {
      before = [];
      behind = h;
      split = ap₂ (λ f u. served f u ∷ h) (ap (looked_at desk) p ∙ near.reached)
          (head-eq_of_cons-eq (sym e ∙ ap (λ k. queue desk (looked_at desk k)) p ∙ ap (queue desk) near.reached ∙ near.at_front));
      not_before = refl;
      in_time = omega arith;
    }
    | no p ↦ elim (dec_le n passed) [
      | yes far ↦ absurd (some_there near (none n (omega arith)))
      | no l ↦
          let earlier : passed < n = omega arith in
          let off : served_by d (served (looked_at desk passed) t)
          ≡ [] = rw (ne_eqb (looked_at desk passed) d (λ x. apart desk.next passed n earlier near.few (x ∙ sym near.reached))) refl in
          later _ off (omega arith)
          (on (n - suc passed) (still near (front passed few none e) off (omega arith) (nearer desk.next passed n earlier ∙ near.reached)) (omega arith))
    ]
  ]

  -- the first call, where what follows is known
  first_call : (desk : Desk) (n : ℕ) (c : Call) (done : Done) (h : History) → Near desk n → Outcome desk c done → n < turns_in (done.event ∷ h)
      → ((m : ℕ) → Near done.desk m → m < turns_in h → ServedWithin (suc m) d s h) → ServedWithin (suc n) d s (done.event ∷ h)
  unfolding turns_in with_sheet
  first_call desk n c done h near (over o) enough on = later _ refl (omega arith) (on n near (omega arith))
  first_call desk n c done h near (full b e) enough on = later _ refl (omega arith) (on n near (omega arith))
  first_call desk n c done h near (room b l) enough on = later _ refl (omega arith)
      (on n (still near (room b l) refl near.few near.reached) (omega arith))
  first_call desk n c done h near (front passed few none e) enough on = turn_nearer desk n passed h near few none e (omega arith) on
  first_call desk n c done h near (nobody none) enough on = absurd (some_there near (none n near.few))

  pub served_soon : (desk : Desk) (n : ℕ) (more : List Call) → Near desk n → n < turns_in (events desk more) → ServedWithin (suc n) d s (events desk more)
  unfolding events turns_in
  served_soon desk n [] near enough = absurd (omega arith)
  served_soon desk n (c ∷ more) near enough =
      first_call desk n c (step desk c) (events (step desk c).desk more) near (outcome desk c) enough
      (λ m near' enough'. served_soon (step desk c).desk m more near' enough')
