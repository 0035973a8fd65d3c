-- `find_map` over the places of a body, its end too or not, finds what there is at the first place where there is something.
use Rattle.std.specs.Prelude.{Option, Some, None, MatchOption, IsTrue, option_map}
use Rattle.std.specs.Fn.{Mut, Called}
use Rattle.std.specs.Range.{range_inclusive_start, range_inclusive_end, range_inclusive_exhausted}
use Rattle.std.specs.Iterator.Runs.{Run, SomeRun, AllItemsGive, IsFirstToGive, CallKeepsClosure}
use Rattle.std.specs.declared.ops.RangeInclusive.{RangeInclusive}
use Rattle.std.specs.declared.ops.Range.{Range}
use Rattle.std.proofs.iter.Yields.{nat_range_steps}
use Rattle.std.proofs.iter.runs.Sources.{nat_range_inclusive_steps, inclusive_listed, range_listed}
use Rattle.laws.proofs.Prelude.{◌≡◌, refl, ◌∙◌, ⊎_elim, true, false, List, ℕ, ◌+◌, ◌≤◌, ◌<◌, zero-add, arith, length}
use native.Mathlib.Nat.{eq-or-lt_of_le}
use Rattle.analysis.specs.declared.Capture.{Capture}
use Rattle.analysis.specs.Row.{Row, match_at, find}
use Rattle.analysis.proofs.Search.{AtFirst, leftmost}

pub record FirstFound (Says : ℕ → Option Capture → Type 0) (n : ℕ) (found : Option Capture) : Type 0 where
  pub first : AtFirst Says n found

-- an item is the one that stands at its place
item : (o : Option ℕ) (n : ℕ) → option_map (λ y. y) o ≡ Some (0 + n) → o ≡ Some n
item (Some x) n e = rw zero-add at e
item None n e = cc

-- what is found at the first of m places where something is
abbrev Before : (ℕ → Option Capture → Type 0) → ℕ → Option Capture → Type 0
Before Says m (Some k) = (at : ℕ) × (at < m) × Says at (Some k) × ((p : ℕ) → p < at → Says p None)
Before Says m None = (at : ℕ) → at < m → Says at None

-- before n what is said there, and at n nothing
abbrev pub Below : ℕ → (ℕ → Option Capture → Type 0) → ℕ → Option Capture → Type 0
Below n Says at k = (at < n → Says at k) × (n ≤ at → k ≡ None)

module _ (Says : ℕ → Option Capture → Type 0) (n : ℕ) where
  up_to : (found : Option Capture) → Before Says (n + 1) found → AtFirst Says n found
  up_to (Some k) (at, h, says, none) = (at, omega arith, says, none)
  up_to None none = λ at h. none at (omega arith)

  below : (found : Option Capture) → Before Says n found → AtFirst (Below n Says) n found
  below (Some k) (at, h, says, none) = (at, omega arith, (λ l. says, λ l. absurd (omega arith)), λ p l. (λ b. none p l, λ b. absurd (omega arith)))
  below None none = λ at h. (λ l. none at l, λ l. refl)

module _ {F : Type 0} (g : Mut F (ℕ × Unit {0}) (Option Capture)) (f : F) where
  abbrev There : ℕ → Option Capture → Type 0
  There at k = Called g f (at, tt) k f

  -- a run that ends where something is
  abbrev Ended : {S : Type 0} {steps : S → Option ℕ → S → Type 0} → Option Capture → Run steps → Type 0
  Ended found p = MatchOption found (IsTrue p.whole × AllItemsGive p g f None)
      (λ y. (i : ℕ) × (i < p.len) × (p.len ≡ i + 1) × IsFirstToGive p g f (Some y) None i)

  among : {S : Type 0} {steps : S → Option ℕ → S → Type 0} → CallKeepsClosure g f → (m : ℕ) (found : Option Capture) (p : Run steps)
      → ((i : ℕ) → i < p.len → p.at i ≡ Some i) → (p.whole ≡ true → p.len ≡ m) → p.len ≤ m → Ended found p → Before There m found
  among keeps m None p place whole less (w, none) = λ i h. rw (place i (omega (arith, whole w))) at (none keeps i)
  among keeps m (Some k) p place whole less (i, l, one, first) =
      let (hit, none) = first keeps in
      (i, omega arith, rw (place i l) at hit, λ j b. rw (place j (omega arith)) at (none j b))

module _ {F : Type 0} {g : Mut F (ℕ × Unit {0}) (Option Capture)} {f : F} {n : ℕ} where
  pub first_found : {places : RangeInclusive ℕ} → range_inclusive_start places ≡ 0 → range_inclusive_end places ≡ n
      → range_inclusive_exhausted places ≡ false → CallKeepsClosure g f
      → (found : Option Capture) → SomeRun nat_range_inclusive_steps places (Ended g f found) → FirstFound (There g f) n found
  first_found start end fresh keeps found (p, from, m) =
      let (first, last, e, d, up) = inclusive_listed p p.seen in
      let (less, all, _, at) = (up (rw from fresh)).0 in
      let first_is : first ≡ 0 = e ∙ rw from start in
      let last_is : last ≡ n + 1 = d ∙ rw (from, end) in
      let run = among g f keeps (n + 1) found p (λ i l. item (p.at i) i (rw first_is at (at i l))) (λ w. omega (arith, all w)) (omega arith) m in
      record { first = up_to (There g f) n found run }

  -- of the places before the end alone
  pub first_below : {places : Range ℕ} → places.start ≡ 0 → places.end ≡ n → CallKeepsClosure g f
      → (found : Option Capture) → SomeRun nat_range_steps places (Ended g f found) → FirstFound (Below n (There g f)) n found
  first_below start end keeps found (p, from, m) =
      let (first, last, e, d, (less, all, _, at), _) = range_listed p p.seen in
      let first_is : first ≡ 0 = e ∙ rw from start in
      let last_is : last ≡ n = d ∙ rw (from, end) in
      let run = among g f keeps n found p (λ i l. item (p.at i) i (rw first_is at (at i l))) (λ w. omega (arith, all w)) (omega arith) m in
      record { first = below (There g f) n found run }

-- what holds of nothing, and of what there is at each place
pub found_so : {Says : ℕ → Option Capture → Type 0} {n : ℕ} {found : Option Capture} → FirstFound Says n found
    → (P : Option Capture → Type 0) → P None → ((at : ℕ) (k : Option Capture) → at ≤ n → Says at k → P k) → P found
found_so {Says} {n} {found} f P none each = go found f.first
  where
    go : (found : Option Capture) → AtFirst Says n found → P found
    go (Some k) (at, h, says, _) = each at (Some k) h says
    go None says = none

pub found_leftmost : (r : Row) (s : List ℕ) {Says : ℕ → Option Capture → Type 0} {found : Option Capture} → FirstFound Says (length s) found
    → ((at : ℕ) (k : Option Capture) → at ≤ length s → Says at k → k ≡ match_at r s at) → found ≡ find r s
found_leftmost r s {found = found} f each = leftmost r s each found f.first

-- where nothing matches at the end, the places before it will do
pub below_so : {Says : ℕ → Option Capture → Type 0} {n : ℕ} (P : ℕ → Option Capture → Type 0) → P n None
    → ((at : ℕ) (k : Option Capture) → at < n → Says at k → P at k) → (at : ℕ) (k : Option Capture) → at ≤ n → Below n Says at k → P at k
below_so P none each at k h b = ⊎_elim (λ e. rw (e, b.1 (omega arith)) none) (λ l. each at k l (b.0 l)) (eq-or-lt_of_le h)
