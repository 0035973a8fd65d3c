use Rattle.std.specs.Bool.{MatchBool}
use Rattle.std.specs.List.{AllWithin, HoldsAt, range_with_len}
use Rattle.std.proofs.lemmas.Iterator.{cases_from_all, YieldsList-from_range}
use Rattle.std.proofs.lemmas.List.{take_rest}
use Rattle.std.proofs.lemmas.List.FromFn.{length-range_with_len, get_or-range_with_len}
use Rattle.laws.proofs.Prelude.{◌≡◌, rules, arith, refl, sym, ◌∙◌, Bool, true, false, List, ℕ, ◌<◌, length, drop, get_or, zero-le, zero-add}
use borrow.Author.Tests.{tests}
use Rattle.text.specs.Utf8.{admits, surrogate}
use Rattle.text.specs.Lossy.{exact}
use Rattle.text.proofs.{Reported.lossy_of, Replaced.nowhere, Replaced.somewhere}
use Rattle.text.proofs.lossy.is_exact.Goals as goal

module _ (s : List ℕ) where
  abbrev places : List ℕ
  places = range_with_len 0 (length s)

  place : (i : ℕ) → i < length s → get_or places i 0 ≡ i
  place i l = get_or-range_with_len 0 (length s) i 0 l ∙ zero-add i

  abbrev Stands : Bool → ℕ → Type 0
  Stands b i = admits surrogate (drop i s) ≡ b

  -- what is found of the places says whether the text is exact
  by_places : {r : Bool} → MatchBool r (AllWithin (Stands false) places 0 (length places)) ((k : ℕ) × (k < length places) × HoldsAt (Stands true) places k)
      → r ≡ exact s
  by_places {r = true} all = sym (nowhere s (λ i l. rw (place i l) at (all i 0 zero-le (rw length-range_with_len l))))
  by_places {r = false} (k, l, h) = sym (somewhere s k (rw (place k (rw length-range_with_len at l)) at (h 0)))

pub returns : goal.returns
returns c =
    let s = c.args.s.now in
    let found = cases_from_all _ _ _ (Stands s false) (Stands s true) c.all.ensures.ran (YieldsList-from_range 0 (length s) (length s) refl (omega arith))
    (λ x q k. search (rules, tests, take_rest)) (λ x q k. search (rules, tests, take_rest)) in
    record { answer = by_places s found; meaning = λ points t. lossy_of t }
