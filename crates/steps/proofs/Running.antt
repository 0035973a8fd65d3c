-- What the stepping matcher goes by: the preferred match of a row by its first step, and by the places where a run can end.
use Rattle.std.specs.Prelude.{Option, Some, None, is_some, Ok, Err}
use Rattle.laws.proofs.Prelude.{◌≡◌, refl, sym, ap, ◌∙◌, Bool, true, false, true≢false, cond, List, [], ◌∷◌, ◌++◌, append-nil, append_assoc, flat_map, ℕ}
use Rattle.laws.proofs.Prelude.{◌+◌, ◌≤◌, ◌<◌, add-zero, arith, drop}
use mathlib.Core.List.{reverse, reverse-cons}
use Rattle.text.specs.{declared.class.Class.Class, declared.utf8.Encoding.TheVariants.Utf8, Utf8.char_length, Utf8.char_at}
use Rattle.text.specs.Class.{member, class_at, run_end}
use Rattle.text.proofs.Runs.{run_stops}
use Rattle.analysis.specs.declared.Capture.{Capture}
use Rattle.analysis.specs.Row.{Row, one_at, done, longest, shortest, run_ends, all, first}
use Rattle.analysis.proofs.Ends.{ends_stop, ends_go_on, ends_begin, by_characters, end_behind}
use Rattle.analysis.proofs.{Search.first_append, RowSteps.some_there, RowSteps.none_there}
use Rattle.steps.specs.declared.{run.Reached.Reached, table.Ill.Ill}
use Rattle.steps.specs.Table.{nothing, step, fork, row, step_of, row_in}
use Rattle.steps.specs.Answers.{Passes, Precedes, FirstOf}
use Rattle.steps.proofs.Decoding.{row_in_lem, before_row, between_rows}

-- the first of two lists of matches that has one
hit : (a b : List Capture) {x : Option Capture} → x ≡ first a → true ≡ is_some x → x ≡ first (a ++ b)
hit a b {x = Some k} e t = sym (first_append a b ∙ rw (← e))
hit a b {x = None} e t = absurd (true≢false t)

miss : (a b : List Capture) {x : Option Capture} → x ≡ first a → false ≡ is_some x → first (a ++ b) ≡ first b
miss a b {x = Some k} e t = absurd (true≢false (sym t))
miss a b {x = None} e t = first_append a b ∙ rw (← e)

-- the preferred match of the row that the numbers stand for
abbrev pub Whole : List ℕ → List ℕ → Reached → Option Capture → Type 0
Whole = FirstOf (λ q. q)

-- the same, reached at another place
abbrev pub moved : Reached → ℕ → Reached
moved m e = record { at = e; captured = m.captured }

-- the preferred match of the row at one place of a table, from how far it has come on, is that of the row at another
pub record Goes (s t : List ℕ) (m : Reached) (u : List ℕ) (n : Reached) : Type 0 where
  pub on : (q : Row) → row_in t ≡ row q → (r : Row) × (row_in u ≡ row r) × (first (all q s m.at m.captured) ≡ first (all r s n.at n.captured))

pub stays : {s t : List ℕ} {m : Reached} → Goes s t m t m
stays = record { on = λ q e. (q, e, refl) }

module _ {s t u : List ℕ} {m n : Reached} (f : Goes s t m u n) where
  onward : {v : List ℕ} {o : Reached} → Goes s u n v o → Goes s t m v o
  onward g = record {
    on = λ q e.
        let (r, i, x) = f.on q e in
        let (p, j, y) = g.on r i in
        (p, j, x ∙ y);
  }

  arrives : {x : Option Capture} → Whole u s n x → Whole t s m x
  arrives a = record { is = λ q e. let (r, i, v) = f.on q e in a.is r i ∙ sym v }

  -- by the first step there
  pub at_done : step_of u ≡ Ok nothing → Whole t s m (Some n.captured)
  unfolding all first
  at_done e = arrives (record { is = λ q i. let same : q ≡ done = cc (row_in_lem u e) in rw same })

  pub at_bad : {y : Ill} → step_of u ≡ Err y → Whole t s m None
  at_bad e = arrives (record { is = λ q i. cc (row_in_lem u e) })

  module _ {g : Row → Row} {v : List ℕ} (e : step_of u ≡ Ok (step g v)) where
    pub at_step : {x : Option Capture} → FirstOf g v s n x → Whole t s m x
    at_step a = arrives (record {
      is = λ q i.
          let (r, j, same) = before_row (row_in v) (sym (row_in_lem u e) ∙ i) in
          rw same (a.is r j);
    })

    module _ {x : Option Reached} (h : Passes g s n x) where
      pub passed : {o : Reached} → x ≡ Some o → Goes s t m v o
      passed is = onward (record {
        on = λ q i.
            let (r, j, same) = before_row (row_in v) (sym (row_in_lem u e) ∙ i) in
            (r, j, ap (λ (x : Row). first (all x s n.at n.captured)) same ∙ ap first (h r) ∙ rw is);
      })

      pub unpassed : x ≡ None → Whole t s m None
      unfolding first
      unpassed is = arrives (record {
        is = λ q i.
            let (r, j, same) = before_row (row_in v) (sym (row_in_lem u e) ∙ i) in
            sym (ap (λ (x : Row). first (all x s n.at n.captured)) same ∙ ap first (h r) ∙ rw is);
      })

  module _ {v w : List ℕ} (e : step_of u ≡ Ok (fork v w)) {x : Option Capture} (h : Whole v s n x) where
    pub at_first : true ≡ is_some x → Whole t s m x
    unfolding all
    at_first is = arrives (record {
      is = λ q i.
          let (a, j, b, k, same) = between_rows (row_in v) (row_in w) (sym (row_in_lem u e) ∙ i) in
          rw same (hit (all a s n.at n.captured) (all b s n.at n.captured) (h.is a j) is);
    })

    pub at_second : false ≡ is_some x → Goes s t m w n
    unfolding all
    at_second is = onward (record {
      on = λ q i.
          let (a, j, b, k, same) = between_rows (row_in v) (row_in w) (sym (row_in_lem u e) ∙ i) in
          (b, k, ap (λ (x : Row). first (all x s n.at n.captured)) same ∙ miss (all a s n.at n.captured) (all b s n.at n.captured) (h.is a j) is);
    })

-- what `match_from` goes by
pub ruleset on_steps = (stays, at_done, passed, at_first, at_second)

-- a run, the shorter ones first, and the steps behind it: from one of its ends to the next
pub record Shorter (c : Class) (t s : List ℕ) (m : Reached) (e : ℕ) : Type 0 where
  pub on : (q : Row) → row_in t ≡ row q → first (all (shortest c q) s m.at m.captured) ≡ first (all (shortest c q) s e m.captured)

module _ {c : Class} {t s : List ℕ} {m : Reached} {e : ℕ} {x : Option Capture} (f : Whole t s (moved m e) x) (before : Shorter c t s m e) where
  pub short_hit : true ≡ is_some x → FirstOf (shortest c) t s m x
  unfolding all flat_map
  short_hit is = record { is = λ q i. sym (before.on q i ∙ rw (ends_begin c s e).1 (sym (hit (all q s e m.captured) _ (f.is q i) is))) }

  pub short_stop : false ≡ is_some x → None ≡ one_at c s e → FirstOf (shortest c) t s m None
  unfolding all flat_map first
  short_stop is z = record { is = λ q i. sym (before.on q i ∙ rw (ends_stop c s e (none_there e _ z)) (miss (all q s e m.captured) [] (f.is q i) is)) }

  pub short_on : false ≡ is_some x → {d : ℕ} → Some d ≡ one_at c s e → (e < d) × Shorter c t s m d
  unfolding all flat_map
  short_on is z =
      let (n, there) = some_there e _ z in
      (omega arith, rw there (record { on = λ q i. before.on q i ∙ rw (ends_go_on c s e refl n) (miss (all q s e m.captured) _ (f.is q i) is) }))

-- the ends of runs from a place up to another, the longest first
pub data Back (c : Class) (s : List ℕ) (at : ℕ) : ℕ → List ℕ → Type 0 where
  begin : Back c s at at (at ∷ [])
  more : {d e : ℕ} {l : List ℕ} → Back c s at d l → (class_at c (drop d s) ≡ 0 → ⊥) → e ≡ d + class_at c (drop d s) → Back c s at e (e ∷ l)

module _ {c : Class} {s : List ℕ} {at : ℕ} where
  back_onward : {e : ℕ} {l : List ℕ} → Back c s at e l → at ≤ e
  back_onward begin = omega arith
  back_onward (more b z p) = omega (arith, back_onward b)

  back_head : {e : ℕ} {l : List ℕ} → Back c s at e l → (m : List ℕ) × (l ≡ e ∷ m)
  back_head begin = ([], refl)
  back_head (more {l} b z p) = (l, refl)

back_run : (c : Class) (s : List ℕ) (at : ℕ) → Back c s at (run_end c s at) (reverse (run_ends c s at))
back_run c s at = rw append-nil at (go at [] begin)
  where
    go : (d : ℕ) (l : List ℕ) → Back c s at d (d ∷ l) → Back c s at (run_end c s d) (reverse (run_ends c s d) ++ l)
    go =
        by_characters c s (λ d. (l : List ℕ) → Back c s at d (d ∷ l) → Back c s at (run_end c s d) (reverse (run_ends c s d) ++ l))
        (λ d z l b. rw (ends_stop c s d z, run_stops c (drop d s) z, add-zero d) b)
        (λ d z f l b. rw (ends_go_on c s d refl z, reverse-cons, append_assoc, ← end_behind c s d z) (f (d ∷ l) (more b z refl)))

-- the longer ones first: the runs up to a place are left to be tried
pub record Longer (c : Class) (t s : List ℕ) (m : Reached) (e : ℕ) : Type 0 where
  pub left : List ℕ
  pub ends : Back c s m.at e left
  pub on : (q : Row) → row_in t ≡ row q → first (all (longest c q) s m.at m.captured) ≡ first (flat_map (λ d. all q s d m.captured) left)

pub long_all : {c : Class} {t s : List ℕ} {m : Reached} {e : ℕ} → e ≡ run_end c s m.at → Longer c t s m e
unfolding all
long_all {c} {s = s} {m = m} p = record { left = reverse (run_ends c s m.at); ends = rw p (back_run c s m.at); on = λ q i. refl }

-- a character of the class is as long as any
class_length : (c : Class) (u : List ℕ) → (class_at c u ≡ 0 → ⊥) → class_at c u ≡ char_length Utf8 u
unfolding class_at char_at
class_length c u z = go (member c (char_at Utf8 u).code) z
  where
    go : (b : Bool) → (cond b (char_length Utf8 u) 0 ≡ 0 → ⊥) → cond b (char_length Utf8 u) 0 ≡ char_length Utf8 u
    go true z = refl
    go false z = absurd (z refl)

module _ {c : Class} {t s : List ℕ} {m : Reached} {e : ℕ} {x : Option Capture} (f : Whole t s (moved m e) x) (before : Longer c t s m e) where
  pub long_hit : true ≡ is_some x → FirstOf (longest c) t s m x
  unfolding flat_map
  long_hit is = record {
    is = λ q i.
        let (others, p) = back_head before.ends in
        hit (all q s e m.captured) (flat_map (λ d. all q s d m.captured) others) (f.is q i) is
        ∙ sym (before.on q i ∙ ap (λ (l : List ℕ). first (flat_map (λ d. all q s d m.captured) l)) p);
  }

  pub long_stop : false ≡ is_some x → e ≤ m.at → FirstOf (longest c) t s m None
  unfolding flat_map first
  long_stop is h = record { is = λ q i. sym (before.on q i ∙ go q before.ends h (f.is q i)) }
    where
      go : (q : Row) {d : ℕ} {l : List ℕ} → Back c s m.at d l → d ≤ m.at → x ≡ first (all q s d m.captured)
          → first (flat_map (λ d. all q s d m.captured) l) ≡ None
      go q begin i g = miss (all q s m.at m.captured) [] g is
      go q (more b z p) i g = absurd (omega (arith, back_onward b))

  pub long_back : {r : ℕ} → false ≡ is_some x → m.at < e → Precedes s e r → (m.at ≤ r) × Longer c t s m r
  unfolding flat_map
  long_back {r} is h start = go e refl before.left before.ends before.on
    where
      go : (d : ℕ) → d ≡ e → (l : List ℕ) → Back c s m.at d l
          → ((q : Row) → row_in t ≡ row q → first (all (longest c q) s m.at m.captured) ≡ first (flat_map (λ d. all q s d m.captured) l))
          → (m.at ≤ r) × Longer c t s m r
      go _ same _ begin on = absurd (omega arith)
      go _ same _ (more {d} {e = y} {l} b z p) on =
          let first : r ≡ d = start d (omega arith) (omega (arith, class_length c (drop d s) z)) in (
            omega (arith, back_onward b),
            record { left = l; ends = rw first b; on = λ q i. on q i ∙ miss (all q s y m.captured) _ (rw (← same) at (f.is q i)) is },
          )
