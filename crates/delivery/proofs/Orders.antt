-- What is answered of a delivery is right.
use Rattle.laws.proofs.Prelude.{◌≡◌, refl, sym, ap, ◌∙◌, Bool, true, false, true≢false, false≢true, cond, ◌||◌, ⊎_elim, List, [], ◌∷◌, ◌++◌, Memᴰ}
use Rattle.laws.proofs.Prelude.{Memᴰ_head, Memᴰ_tail, Memᴰ_not_nil, Memᴰ_cases_cons, ℕ, arith}
use mathlib.Core.List.Memᴰ
use Rattle.laws.specs.Codec.{All}
use Rattle.laws.specs.Decoded.{Decoded, ok, no}
use Rattle.wire.specs.Refusals.{one_of}
use Rattle.wire.specs.Refusals as refusals
use Rattle.delivery.specs.code.Views.{unnumbered}
use Rattle.delivery.specs.Delivery.{Module, DeliveryOf, decode_delivery}
use Rattle.delivery.specs.Order.{Answer, in_order, not_in_order, refused, among, repeated, modules_in_turn, sheets_in_turn, order_in, order_of}
use Rattle.delivery.specs.Right.{NamesDiffer, Reported, InOrder, FirstRefused, FirstLate, JudgedRight, OrderRight}
use Rattle.delivery.proofs.{Deliveries.decoded, Deliveries.delivered, Reported.not_of_sheets, Judging.among_member, Judging.member_among}
use Rattle.delivery.proofs.InTurn.{all_modules, late_answered, first_late_or, all_sheets, refusal_answered, first_refused_or}

-- no name of the modules is one of those before them
abbrev Fresh : List (List ℕ) → List Module → Type 0
Fresh earlier ms = (m : Module) → Memᴰ m ms → Memᴰ m.name earlier → ⊥

-- where none is repeated, names differ, and back
differ : (earlier : List (List ℕ)) (ms : List Module) → repeated earlier ms ≡ false → Fresh earlier ms × NamesDiffer ms
unfolding repeated
differ earlier [] e = (λ m i j. Memᴰ_not_nil i, tt)
differ earlier (m ∷ ms) e = by (among m.name earlier) refl e (differ (earlier ++ (m.name ∷ [])) ms)
  where
    by : (b : Bool) → among m.name earlier ≡ b → (b || repeated (earlier ++ (m.name ∷ [])) ms) ≡ false
        → (repeated (earlier ++ (m.name ∷ [])) ms ≡ false → Fresh (earlier ++ (m.name ∷ [])) ms × NamesDiffer ms)
        → Fresh earlier (m ∷ ms) × NamesDiffer (m ∷ ms)
    by true h e rest = absurd (true≢false e)
    by false h e rest =
        let (fresh, differs) = rest e in (
          λ n i j.
              ⊎_elim
              (λ (same : n ≡ m). false≢true (sym h ∙ member_among m.name earlier (Memᴰ.cast (ap (λ (n : Module). n.name) (sym same)) j)))
              (λ k. fresh n k (Memᴰ.append_left (m.name ∷ []) j))
              (Memᴰ_cases_cons i),
          (λ n i same. fresh n i (Memᴰ.append_right earlier (Memᴰ_head (sym same))), differs),
        )

once : (earlier : List (List ℕ)) (ms : List Module) → Fresh earlier ms → NamesDiffer ms → repeated earlier ms ≡ false
unfolding repeated
once earlier [] fresh differs = refl
once earlier (m ∷ ms) fresh differs = by (among m.name earlier) refl (λ h. once (earlier ++ (m.name ∷ [])) ms h differs.1)
  where
    behind : Fresh (earlier ++ (m.name ∷ [])) ms
    behind n i j =
        ⊎_elim
        (λ k. fresh n (Memᴰ_tail i) k)
        (λ k. differs.0 n i (sym (Memᴰ.eq_of_singleton k)))
        (Memᴰ.append_cases earlier j)

    by : (b : Bool) → among m.name earlier ≡ b → (Fresh (earlier ++ (m.name ∷ [])) ms → repeated (earlier ++ (m.name ∷ [])) ms ≡ false)
        → (b || repeated (earlier ++ (m.name ∷ [])) ms) ≡ false
    by true h rest = absurd (fresh m (Memᴰ_head refl) (among_member m.name earlier h))
    by false h rest = rest behind

-- the three kinds of answers are told apart
refused_not_in_order : {r i : ℕ} → in_order ≡ refused r i → ⊥
refused_not_in_order e = let z : ◌≡◌ {A = ℕ} 0 1 = cc in omega arith

pub refused_not_late : {r i j k : ℕ} {x : List ℕ} → not_in_order j k x ≡ refused r i → ⊥
refused_not_late e = let z : ◌≡◌ {A = ℕ} 0 1 = cc in omega arith

pub late_not_in_order : {j k : ℕ} {x : List ℕ} → not_in_order j k x ≡ in_order → ⊥
late_not_in_order e = let z : ◌≡◌ {A = ℕ} 0 1 = cc in omega arith

-- where no sheet is answered as refused, each gets its report
pub none_refused : (size : ℕ) (ms : List Module) → ((behind : Answer) → behind ≡ sheets_in_turn size 0 ms behind) → All (Reported size) ms
none_refused size ms h = first_refused_or size ms (λ v. v) (λ r i f. absurd (refused_not_in_order (h in_order ∙ refusal_answered size in_order f)))

-- what is answered where no modules were read, and where some were
module _ (size : ℕ) (s : List ℕ) where
  pub none_read : unnumbered (decode_delivery s) ≡ no 0 → order_of size s ≡ refused refusals.delivery 0
  unfolding order_of
  none_read e = by (decode_delivery s) e
    where
      by : (x : Decoded (List Module)) → unnumbered x ≡ no 0 → order_in size x ≡ refused refusals.delivery 0
      by (ok ms t) e = let z : ◌≡◌ {A = ℕ} 0 1 = cc in absurd (omega arith)
      by (no r) e = refl

  module _ {ms : List Module} (read : unnumbered (decode_delivery s) ≡ ok ms []) where
    some_read : order_of size s ≡ order_in size (ok ms [])
    unfolding order_of
    some_read = by (decode_delivery s) read
      where
        by : (x : Decoded (List Module)) → unnumbered x ≡ ok ms [] → order_in size x ≡ order_in size (ok ms [])
        by (ok l t) e = ap (order_in size) e
        by (no r) e = let z : ◌≡◌ {A = ℕ} 0 1 = cc in absurd (omega arith)

    pub names_twice : repeated [] ms ≡ true → order_of size s ≡ refused refusals.name_twice 0
    names_twice e = some_read ∙ rw e

    pub names_differ : repeated [] ms ≡ false → order_of size s ≡ sheets_in_turn size 0 ms (modules_in_turn [] 0 ms)
    names_differ e = some_read ∙ rw e

-- modules whose names differ: a refused sheet, or all in order, or the first entry that is late
data Verdict (size : ℕ) (ms : List Module) (a : Answer) : Type 0 where
  sheet : (r i : ℕ) → a ≡ refused r i → FirstRefused size ms r i → Verdict size ms a
  fine : a ≡ in_order → All (Reported size) ms → InOrder ms → Verdict size ms a
  late : (i j : ℕ) (x : List ℕ) → a ≡ not_in_order i j x → All (Reported size) ms → FirstLate ms i j x → Verdict size ms a

module _ (size : ℕ) (ms : List Module) where
  abbrev pub answer : Answer
  answer = sheets_in_turn size 0 ms (modules_in_turn [] 0 ms)

  verdict : Verdict size ms answer
  verdict =
      first_refused_or size ms
      (λ v.
      let sheets = all_sheets size (modules_in_turn [] 0 ms) ms v in
      first_late_or ms (λ o. fine (sheets ∙ all_modules ms o) v o) (λ i j x f. late i j x (sheets ∙ late_answered f) v f))
      (λ r i f. sheet r i (refusal_answered size (modules_in_turn [] 0 ms) f) f)

  pub judged_right : JudgedRight size ms answer
  judged_right =
      record {
        refusals = λ r i. (λ e. refusal r i e verdict, λ f. refusal_answered size (modules_in_turn [] 0 ms) f);
        in_order_means = (λ e. order e verdict, λ (v, o). all_sheets size (modules_in_turn [] 0 ms) ms v ∙ all_modules ms o);
        not_in_order_means = λ i j x. (λ e. first i j x e verdict, λ (v, f). all_sheets size (modules_in_turn [] 0 ms) ms v ∙ late_answered f);
      }
    where
      refusal : (r i : ℕ) → answer ≡ refused r i → Verdict size ms answer → FirstRefused size ms r i
      refusal r i e (sheet q k is f) =
          let same : refused q k ≡ refused r i = sym is ∙ e in
          let number : q ≡ r = cc in
          let index : k ≡ i = cc in
          rw (← number, ← index) f
      refusal r i e (fine is v o) = absurd (refused_not_in_order (sym is ∙ e))
      refusal r i e (late k j x is v f) = absurd (refused_not_late (sym is ∙ e))

      order : answer ≡ in_order → Verdict size ms answer → All (Reported size) ms × InOrder ms
      order e (sheet q k is f) = absurd (refused_not_in_order (sym e ∙ is))
      order e (fine is v o) = (v, o)
      order e (late k j x is v f) = absurd (late_not_in_order (sym is ∙ e))

      first : (i j : ℕ) (x : List ℕ) → answer ≡ not_in_order i j x → Verdict size ms answer → All (Reported size) ms × FirstLate ms i j x
      first i j x e (sheet q k is f) = absurd (refused_not_late (sym e ∙ is))
      first i j x e (fine is v o) = absurd (late_not_in_order (sym e ∙ is))
      first i j x e (late k l y is v f) =
          let same : not_in_order k l y ≡ not_in_order i j x = sym is ∙ e in
          let p : k ≡ i = cc in
          let q : l ≡ j = cc in
          let r : y ≡ x = cc in
          (v, rw (← p, ← q, ← r) f)

  -- no sheet is refused with 11 or 12
  pub not_eleven : answer ≡ refused 11 0 → ⊥
  unfolding one_of
  not_eleven e = let f = (judged_right.refusals 11 0).0 e in not_of_sheets f.middle.sheet size f.number (λ z. omega arith) (λ z. omega arith) refl

  pub not_twelve : answer ≡ refused 12 0 → ⊥
  unfolding one_of
  not_twelve e = let f = (judged_right.refusals 12 0).0 e in not_of_sheets f.middle.sheet size f.number (λ z. omega arith) (λ z. omega arith) refl

other_number : refused 12 0 ≡ refused 11 0 → ⊥
other_number e = let z : ◌≡◌ {A = ℕ} 12 11 = cc in omega arith

pub order_right : (size : ℕ) (s : List ℕ) → OrderRight size s (order_of size s)
unfolding order_of
order_right size s =
    record {
      eleven = (λ e ms h. no_eleven ms (rw (delivered s h) at e), λ none. eleven none (decode_delivery s) refl);
      twelve = (λ e. twelve (decode_delivery s) refl e, λ (ms, h, twice). rw (delivered s h, repeats ms twice));
      judged = λ ms h differs. rw (delivered s h, once [] ms (λ m i j. Memᴰ_not_nil j) differs) (judged_right size ms);
    }
  where
    no_eleven : (ms : List Module) → order_in size (ok ms []) ≡ refused 11 0 → ⊥
    no_eleven ms e = by (repeated [] ms) e
      where
        by : (b : Bool) → cond b (refused 12 0) (answer size ms) ≡ refused 11 0 → ⊥
        by true e = other_number e
        by false e = not_eleven size ms e

    eleven : ((ms : List Module) → DeliveryOf s ms → ⊥) → (x : Decoded (List Module)) → decode_delivery s ≡ x → order_in size x ≡ refused 11 0
    eleven none (ok ms t) e = absurd (none ms (decoded s e).1)
    eleven none (no r) e = refl

    repeats : (ms : List Module) → (NamesDiffer ms → ⊥) → repeated [] ms ≡ true
    repeats ms twice = by (repeated [] ms) refl
      where
        by : (b : Bool) → repeated [] ms ≡ b → b ≡ true
        by true e = refl
        by false e = absurd (twice (differ [] ms e).1)

    twelve : (x : Decoded (List Module)) → decode_delivery s ≡ x → order_in size x ≡ refused 12 0 → (ms : List Module) × DeliveryOf s ms × (NamesDiffer ms → ⊥)
    twelve (ok ms t) is e = (ms, (decoded s is).1, λ differs. by (repeated [] ms) (once [] ms (λ m i j. Memᴰ_not_nil j) differs) e)
      where
        by : (b : Bool) → b ≡ false → cond b (refused 12 0) (answer size ms) ≡ refused 12 0 → ⊥
        by true h e = true≢false h
        by false h e = not_twelve size ms e
    twelve (no r) is e = absurd (other_number (sym e))
