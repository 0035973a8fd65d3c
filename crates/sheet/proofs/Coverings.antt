-- Which comments are in some group, from the longest group that begins at each.
use Rattle.laws.proofs.Prelude.{◌≡◌, refl, sym, ◌∙◌, Bool, true, false, cond, ◌&&◌, ◌||◌, or-true, true≢false, false≢true, and-eq-true_iff, ◌⊎◌, inl, inr}
use Rattle.laws.proofs.Prelude.{⊎_elim, ◌↔◌, List, [], ◌∷◌, Memᴰ, Memᴰ_head, Memᴰ_tail, Memᴰ_not_nil, Memᴰ_cases_cons, ℕ}
use Rattle.laws.proofs.Prelude.{zero, suc, ◌+◌, ◌≤◌, ◌<◌, not-suc-le-zero, le_of_suc-le-suc, add-one, arith, eqb, leb, ltb, length}
use Rattle.laws.proofs.Prelude.{get_or, replicate, leb-true, le-leb, ltb-true, ltb-false, eqb-true}
use Rattle.laws.proofs.Prelude.{lt-ltb, le-ltb, drop, drop-cons, drop_of_length-le}
use mathlib.Core.Bool.{or_assoc}
use Prim.Native.Nat.{max}
use native.Mathlib.Nat.{zero-max, max-zero, eq-or-lt_of_le}
use lib.{Dec.leb-suc-suc, ListN.get_or-replicate}
use borrow.Author.Tests.{eqb-false}
use Rattle.sheet.specs.{declared.groups.Group.Group, Fit.Holds, Fit.HeldBySome, Fit.no_group, Fit.group_of, code.Covering.longest_at}
use Rattle.sheet.specs.Comments.{holds, in_some, covered}

-- a number is below the larger of two just where it is below one of them
below_max : (j a b : ℕ) → ltb j (max a b) ≡ (ltb j a || ltb j b)
below_max j a b = go (ltb j a) refl (ltb j b) refl
  where
    go : (x : Bool) → ltb j a ≡ x → (y : Bool) → ltb j b ≡ y → ltb j (max a b) ≡ (x || y)
    go true e y f = lt-ltb j (max a b) (omega (arith, ltb-true j a e))
    go false e true f = lt-ltb j (max a b) (omega (arith, ltb-true j b f))
    go false e false f = le-ltb j (max a b) (omega (arith, ltb-false j a e, ltb-false j b f))

-- a group that begins before k goes past the comment j
pub begun : List Group → ℕ → ℕ → Bool
begun [] k j = false
begun (g ∷ gs) k j = (ltb g.first k && ltb j (g.first + g.count)) || begun gs k j

begun_none : (gs : List Group) (j : ℕ) → begun gs 0 j ≡ false
unfolding begun
begun_none [] j = refl
begun_none (g ∷ gs) j = rw (le-ltb g.first 0 (omega arith)) (begun_none gs j)

begun_here : (gs : List Group) (i : ℕ) → in_some gs i ≡ begun gs (suc i) i
unfolding begun
begun_here [] i = refl
begun_here (g ∷ gs) i = rw (leb-suc-suc g.first i, begun_here gs i)

-- the groups that begin at k come in
begun_more : (gs : List Group) (k j : ℕ) → k ≤ j → begun gs (suc k) j ≡ (begun gs k j || ltb j (k + longest_at gs k))
unfolding begun longest_at
begun_more [] k j h = rw (le-ltb j (k + 0) (omega arith))
begun_more (g ∷ gs) k j h = go (begun_more gs k j h) (ltb g.first k) refl (eqb g.first k) refl
  where
    shuffle : (x b r : Bool) → (x || (b || r)) ≡ (b || (x || r))
    shuffle true true r = refl
    shuffle true false r = refl
    shuffle false b r = refl

    go : begun gs (suc k) j ≡ (begun gs k j || ltb j (k + longest_at gs k)) → (a : Bool) → ltb g.first k ≡ a → (b : Bool) → eqb g.first k ≡ b
        → ((ltb g.first (suc k) && ltb j (g.first + g.count)) || begun gs (suc k) j)
        ≡ (((a && ltb j (g.first + g.count)) || begun gs k j) || ltb j (k + max (cond b g.count 0) (longest_at gs k)))
    go more true e true f = absurd (omega (arith, ltb-true g.first k e, eqb-true g.first k f))
    go more true e false f =
        rw (lt-ltb g.first (suc k) (omega (arith, ltb-true g.first k e)), zero-max, more)
        (sym (or_assoc (ltb j (g.first + g.count)) (begun gs k j) (ltb j (k + longest_at gs k))))
    go more false e true f =
        let here = eqb-true g.first k f in
        let past : k + max g.count (longest_at gs k) ≡ max (k + g.count) (k + longest_at gs k) = omega arith in
        rw (here, lt-ltb k (suc k) (omega arith), more, past, below_max)
        (shuffle (ltb j (k + g.count)) (begun gs k j) (ltb j (k + longest_at gs k)))
    go more false e false f =
        let other = eqb-false g.first k f in
        rw (le-ltb g.first (suc k) (omega (arith, ltb-false g.first k e, other)), zero-max) more

-- where each comment is in some group, this one is
covered_at : (gs : List Group) (n i : ℕ) → i < n → covered gs n ≡ true → in_some gs i ≡ true
unfolding covered
covered_at gs zero i l e = absurd (not-suc-le-zero l)
covered_at gs (suc n) i l e = go (eq-or-lt_of_le (le_of_suc-le-suc l)) (covered_at gs n i)
  where
    go : (i ≡ n) ⊎ (i < n) → (i < n → covered gs n ≡ true → in_some gs i ≡ true) → in_some gs i ≡ true
    go (inl x) f = rw x ((and-eq-true_iff (covered gs n) (in_some gs n)).0 e).1
    go (inr x) f = f x ((and-eq-true_iff (covered gs n) (in_some gs n)).0 e).0

-- and back
covers : (gs : List Group) (n : ℕ) → ((i : ℕ) → i < n → in_some gs i ≡ true) → covered gs n ≡ true
unfolding covered
covers gs zero all = refl
covers gs (suc n) all = rw (covers gs n (λ i l. all i (omega arith)), all n (omega arith))

-- to be in some group is to be held by one of the list
held : (gs : List Group) (i : ℕ) → in_some gs i ≡ true → HeldBySome gs i
held [] i e = absurd (false≢true e)
held (g ∷ gs) i e = go (holds i g) refl e (held gs i)
  where
    go : (b : Bool) → holds i g ≡ b → (b || in_some gs i) ≡ true → (in_some gs i ≡ true → HeldBySome gs i) → HeldBySome (g ∷ gs) i
    go true h e on =
        let (l, u) = (and-eq-true_iff (leb g.first i) (ltb i (g.first + g.count))).0 h in
        record { group = g; member = Memᴰ_head refl; holds = (leb-true g.first i l, ltb-true i (g.first + g.count) u) }
    go false h e on = let r = on e in record { group = r.group; member = Memᴰ_tail r.member; holds = r.holds }

pub in_held : (gs : List Group) (i : ℕ) (g : Group) → Memᴰ g gs → Holds g i → in_some gs i ≡ true
in_held [] i g m h = absurd (Memᴰ_not_nil m)
in_held (x ∷ gs) i g m (l, u) =
    ⊎_elim
    (λ e. rw (← e, le-leb g.first i l, lt-ltb i (g.first + g.count) u))
    (λ n. rw (in_held gs i g n (l, u), or-true))
    (Memᴰ_cases_cons m)

-- the first n comments are covered just where each is held by some group
pub covered_iff : (gs : List Group) (n : ℕ) → (covered gs n ≡ true) ↔ ((i : ℕ) → i < n → HeldBySome gs i)
covered_iff gs n = (
  λ e i l. held gs i (covered_at gs n i l e),
  λ all. covers gs n (λ i l. let r = all i l in in_held gs i r.group r.member r.holds),
)

uncovered : (gs : List Group) (n i : ℕ) → i < n → in_some gs i ≡ false → covered gs n ≡ false
uncovered gs n i l e = go (covered gs n) refl
  where
    go : (b : Bool) → covered gs n ≡ b → b ≡ false
    go true h = absurd (true≢false (sym (covered_at gs n i l h) ∙ e))
    go false h = refl

-- the comments before i are in some group; of the others, those before `far` are in one that begins before i
pub record Passed (gs : List Group) (i far : ℕ) : Type 0 where
  pub all : covered gs i ≡ true
  pub reach : (j : ℕ) → i ≤ j → begun gs i j ≡ ltb j far

pub pass_none : (gs : List Group) → Passed gs 0 0
unfolding covered
pass_none gs = record { all = refl; reach = λ j h. begun_none gs j ∙ sym (le-ltb j 0 (omega arith)) }

-- the comment i, where the longest group that begins there has so many
module _ {gs : List Group} {i far : ℕ} (p : Passed gs i far) {long far' : ℕ} (e : long ≡ longest_at gs i) (f : far' ≡ max far (i + long)) where
  farther : (j : ℕ) → i ≤ j → begun gs (suc i) j ≡ ltb j far'
  farther j h = rw (begun_more gs i j h, p.reach j h, ← below_max, ← e, ← f)

  pub pass_more : i < far' → Passed gs (i + 1) far'
  unfolding covered
  pass_more l = record {
    all = rw (add-one, p.all, begun_here gs i, farther i (omega arith)) (lt-ltb i far' l);
    reach = λ j h. rw add-one (farther j (omega arith));
  }

  pub pass_stop : far' ≤ i → (n : ℕ) → i < n → covered gs n ≡ false
  pass_stop l n h = uncovered gs n i h (rw (begun_here gs i, farther i (omega arith)) (le-ltb i far' l))

-- what is kept for the first n comments, with the groups from the kth on, is what was kept with all the groups
pub record Keeping (gs : List Group) (n : ℕ) (longest₀ longest : List ℕ) (k : ℕ) : Type 0 where
  pub rest : (i : ℕ) → i < n → max (get_or longest i 0) (longest_at (drop k gs) i) ≡ max (get_or longest₀ i 0) (longest_at gs i)

module _ {gs : List Group} {n : ℕ} {longest₀ longest : List ℕ} {k : ℕ} (h : Keeping gs n longest₀ longest k) where
  pub keep_more : {longest' : List ℕ} → k < length gs
      → ((i : ℕ) → i < n → get_or longest' i 0 ≡ max (get_or longest i 0) (cond (eqb (group_of gs k).first i) (group_of gs k).count 0))
      → Keeping gs n longest₀ longest' (k + 1)
  unfolding longest_at
  keep_more {longest'} l raised = record { rest = λ i x. rw (add-one k) (omega (arith, rw (drop-cons gs k no_group l) at (h.rest i x), raised i x)) }

  pub keep_all : length gs ≤ k → (i : ℕ) → i < n → get_or longest i 0 ≡ max (get_or longest₀ i 0) (longest_at gs i)
  unfolding longest_at
  keep_all x i l = rw (drop_of_length-le gs x, max-zero) at (h.rest i l)

-- from zeros
pub keep_zeros : {longest : List ℕ} (n : ℕ) → longest ≡ replicate n 0 → (i : ℕ) → i < n → {x y : ℕ} → x ≡ max (get_or longest i 0) y → x ≡ y
keep_zeros n e i l f = rw (e, get_or-replicate {A = ℕ} n i 0 0 l, zero-max) at f
