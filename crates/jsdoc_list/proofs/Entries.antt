-- The imports at the places that are ticked: which they are, how many, and in which order.
use Rattle.std.specs.Prelude.{Some, None}
use Rattle.laws.proofs.Prelude.{◌≡◌, refl, ap, sym, ◌∙◌, ⊎_elim, List, [], ◌∷◌, Memᴰ, Memᴰ_head, Memᴰ_tail, Memᴰ_not_nil}
use Rattle.laws.proofs.Prelude.{Memᴰ_cases_cons, Option, ℕ, zero, suc, ◌+◌, ◌<◌, add-zero, add-one, arith, length, get_or}
use native.Mathlib.Nat.{add-suc, suc-add}
use Rattle.text.{specs.Position.Before, proofs.PositionsApart.grows}
use Rattle.wire.specs.Fields.{value_of}
use Rattle.report.specs.{ModuleInfo.PositionRange, ModuleInfo.JsDocImportInfo, Decode.modes}
use Rattle.pragmas.specs.Readings.{listed}
use Rattle.jsdoc_list.specs.Imports.{count_of, import_at, imports_from}
use Rattle.jsdoc_list.specs.Demand.{start_of, Ascending}
use Rattle.jsdoc_list.proofs.Quotes.{Standing}

module _ (source : List ℕ) where
  -- each import of the list is that of a tick
  pub found : (ticks : List ℕ) (q : ℕ) {i : JsDocImportInfo} → Memᴰ i (imports_from source q ticks)
      → (d m : ℕ) × (get_or ticks d 0 ≡ m + 1) × (import_at source (q + d) (value_of modes m) ≡ Some i)
  unfolding imports_from
  found [] q among = absurd (Memᴰ_not_nil among)
  found (zero ∷ ticks) q among =
      let (d, m, h, is) = found ticks (suc q) among in
      (suc d, m, h, rw (add-suc, ← suc-add) is)
  found (suc n ∷ ticks) q {i} among = go (import_at source q (value_of modes n)) refl among (found ticks (suc q))
    where
      go : (o : Option JsDocImportInfo) → import_at source q (value_of modes n) ≡ o → Memᴰ i (listed o (imports_from source (suc q) ticks))
          → (Memᴰ i (imports_from source (suc q) ticks) →
          (d m : ℕ) × (get_or ticks d 0 ≡ m + 1) × (import_at source (suc q + d) (value_of modes m) ≡ Some i))
          → (d m : ℕ) × (get_or (suc n ∷ ticks) d 0 ≡ m + 1) × (import_at source (q + d) (value_of modes m) ≡ Some i)
      go None e among more =
          let (d, m, h, is) = more among in
          (suc d, m, h, rw (add-suc, ← suc-add) is)
      go (Some j) e among more =
          ⊎_elim
          (λ p. (0, n, sym (add-one n), rw add-zero (e ∙ ap Some (sym p))))
          (λ a. let (d, m, h, is) = more a in (suc d, m, h, rw (add-suc, ← suc-add) is))
          (Memᴰ_cases_cons among)

  -- and each tick's import is in the list
  pub in_list : (ticks : List ℕ) (q d m : ℕ) {i : JsDocImportInfo} → get_or ticks d 0 ≡ m + 1 → import_at source (q + d) (value_of modes m) ≡ Some i
      → Memᴰ i (imports_from source q ticks)
  unfolding imports_from
  in_list [] q d m h is = absurd (omega arith)
  in_list (zero ∷ ticks) q zero m h is = absurd (omega arith)
  in_list (zero ∷ ticks) q (suc d) m h is = in_list ticks (suc q) d m h (rw (add-suc, ← suc-add) at is)
  in_list (suc n ∷ ticks) q zero m h is =
      let e : n ≡ m = omega arith in
      rw (e, rw add-zero at is) (Memᴰ_head refl)
  in_list (suc n ∷ ticks) q (suc d) m {i} h is = go (import_at source q (value_of modes n)) (in_list ticks (suc q) d m h (rw (add-suc, ← suc-add) at is))
    where
      go : (o : Option JsDocImportInfo) → Memᴰ i (imports_from source (suc q) ticks) → Memᴰ i (listed o (imports_from source (suc q) ticks))
      go None a = a
      go (Some j) a = Memᴰ_tail a

  -- an import stands at each tick
  abbrev pub Standings : List ℕ → ℕ → Type 0
  Standings ticks q = (d m : ℕ) → get_or ticks d 0 ≡ m + 1 → (e : ℕ) × Standing source (q + d) e (value_of modes m)

  onward : (x : ℕ) (ticks : List ℕ) (q : ℕ) → Standings (x ∷ ticks) q → Standings ticks (suc q)
  onward x ticks q s d m h = rw (suc-add, ← add-suc) (s (suc d) m h)

  here : (n : ℕ) (ticks : List ℕ) (q : ℕ) → Standings (suc n ∷ ticks) q → (e : ℕ) × Standing source q e (value_of modes n)
  here n ticks q s = rw add-zero at (s 0 n (sym (add-one n)))

  pub count_all : (ticks : List ℕ) (q : ℕ) → Standings ticks q → length (imports_from source q ticks) ≡ count_of ticks
  unfolding imports_from count_of
  count_all [] q s = refl
  count_all (zero ∷ ticks) q s = count_all ticks (suc q) (onward 0 ticks q s)
  count_all (suc n ∷ ticks) q s =
      let (e, t) = here n ticks q s in
      rw t.is (ap suc (count_all ticks (suc q) (onward (suc n) ticks q s)))

  -- those that follow start at later places
  later : (ticks : List ℕ) (q n : ℕ) {e : ℕ} (t : Standing source q e (value_of modes n)) → Standings ticks (suc q) → (j : JsDocImportInfo) →
      Memᴰ j (imports_from source (suc q) ticks)
      → Before (start_of t.import) (start_of j)
  later ticks q n t s j among =
      let (d, m, h, is) = found ticks (suc q) among in
      let (e, u) = s d m h in
      let same : u.import ≡ j = cc (u.is, is) in
      let l : q < suc q + d = omega arith in
      rw (← same, ap (λ (r : PositionRange). r.start) t.stands.range.is, ap (λ (r : PositionRange). r.start) u.stands.range.is)
      (grows (λ b. omega arith) source q (suc q + d) l u.stands.range.start.0 t.stands.range.start.1)

  pub ascends : (ticks : List ℕ) (q : ℕ) → Standings ticks q → Ascending (imports_from source q ticks)
  unfolding imports_from
  ascends [] q s = tt
  ascends (zero ∷ ticks) q s = ascends ticks (suc q) (onward 0 ticks q s)
  ascends (suc n ∷ ticks) q s =
      let (e, t) = here n ticks q s in
      let s' = onward (suc n) ticks q s in
      rw t.is (later ticks q n t s', ascends ticks (suc q) s')
