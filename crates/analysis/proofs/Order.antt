-- Places in an order. Of the matches that they stand for, the first is that of one of them, and those before it have none.
use Rattle.std.specs.Prelude.{Some}
use Rattle.laws.proofs.Prelude.{◌≡◌, refl, List, [], ◌∷◌, ◌++◌, flat_map, Memᴰ, Memᴰ_head, Memᴰ_tail, Memᴰ_not_nil, Memᴰ_cases_cons}
use Rattle.laws.proofs.Prelude.{⊎_elim, ℕ, suc, ◌+◌, ◌≤◌, ◌<◌, arith, drop}
use mathlib.Core.List.Memᴰ
use mathlib.Core.List.{reverse, reverse-cons}
use Rattle.text.{specs.declared.class.Class.Class, specs.Class.class_at, proofs.Characters.stands_length}
use Rattle.analysis.specs.{declared.Capture.Capture, Matches.Run}
use Rattle.analysis.specs.Row.{run_ends, first, places}
use Rattle.analysis.proofs.Ends.{ends_stop, ends_go_on, by_characters}
use Rattle.analysis.proofs.Meaning.{of_reverse, of_ends, of_places}

-- each of the places comes before those behind it
pub data InOrder (R : ℕ → ℕ → Type 0) : List ℕ → Type 0 where
  none : InOrder R []
  next : {e : ℕ} {l : List ℕ} → ((d : ℕ) → Memᴰ d l → R e d) → InOrder R l → InOrder R (e ∷ l)

snoc : {R : ℕ → ℕ → Type 0} {e : ℕ} {l : List ℕ} → InOrder R l → ((d : ℕ) → Memᴰ d l → R d e) → InOrder R (l ++ e ∷ [])
snoc none h = next (λ d m. absurd (Memᴰ_not_nil m)) none
snoc {e} (next {e = x} {l} g o) h =
    next (λ d m. ⊎_elim (g d) (λ i. let p : d ≡ e = Memᴰ.eq_of_singleton i in rw p (h x (Memᴰ_head refl))) (Memᴰ.append_cases l m))
    (snoc o (λ d m. h d (Memᴰ_tail m)))

pub reversed : {R : ℕ → ℕ → Type 0} {l : List ℕ} → InOrder R l → InOrder (λ d e. R e d) (reverse l)
reversed none = none
reversed (next {l} g o) = rw reverse-cons (snoc (reversed o) (λ d m. g d (of_reverse l m)))

-- a run goes on from its place, and the shorter runs come first
pub run_onward : {s : List ℕ} {c : Class} {at end : ℕ} → Run s c at end → at ≤ end
run_onward Run.none = omega arith
run_onward (Run.more x r) = omega (arith, stands_length x, run_onward r)

pub ends_ascend : (c : Class) (s : List ℕ) (at : ℕ) → InOrder ◌<◌ (run_ends c s at)
ends_ascend c s =
    by_characters c s (λ at. InOrder ◌<◌ (run_ends c s at))
    (λ at z. rw (ends_stop c s at z) (next (λ d m. absurd (Memᴰ_not_nil m)) none))
    (λ at z o. rw (ends_go_on c s at refl z) (next {e = at} (λ d m. let h = run_onward (of_ends s c (at + class_at c (drop at s)) d m) in omega arith) o))

pub places_ascend : (t : List ℕ) (at : ℕ) → InOrder ◌<◌ (places t at)
unfolding places
places_ascend [] at = next (λ d m. absurd (Memᴰ_not_nil m)) none
places_ascend (x ∷ t) at = next (λ d m. (of_places t (suc at) d m).0) (places_ascend t (suc at))

-- the one of the places that has the first match, what comes before it by R having none
pub record Earliest (R : ℕ → ℕ → Type 0) (f : ℕ → List Capture) (l : List ℕ) (k : Capture) : Type 0 where
  pub at : ℕ
  pub among : Memᴰ at l
  pub captures : first (f at) ≡ Some k
  pub unmatched : (d : ℕ) → Memᴰ d l → R d at → f d ≡ []

pub earliest : {R : ℕ → ℕ → Type 0} → ((d e : ℕ) → R d e → R e d → ⊥) → (f : ℕ → List Capture) {k : Capture} {l : List ℕ}
    → InOrder R l → first (flat_map f l) ≡ Some k → Earliest R f l k
unfolding flat_map first
earliest apart f none e = let z : ◌≡◌ {A = ℕ} 0 1 = cc in absurd (omega arith)
earliest {R} apart f {k} (next {e = x} {l} g o) e = go (f x) refl (earliest apart f o) e
  where
    go : (y : List Capture) → f x ≡ y → (first (flat_map f l) ≡ Some k → Earliest R f l k) → first (y ++ flat_map f l) ≡ Some k → Earliest R f (x ∷ l) k
    go [] i further j =
        let r = further j in
        record {
          at = r.at;
          among = Memᴰ_tail r.among;
          captures = r.captures;
          unmatched = λ d m b. ⊎_elim (λ p. rw p i) (λ n. r.unmatched d n b) (Memᴰ_cases_cons m);
        }
    go (y ∷ ys) i further j = record {
      at = x;
      among = Memᴰ_head refl;
      captures = rw i j;
      unmatched = λ d m b. absurd (⊎_elim (λ p. let c = rw p at b in apart x x c c) (λ n. apart d x b (g d n)) (Memᴰ_cases_cons m));
    }
