-- What a decoder in steps answered at each of them, if it answered a value.
use mathlib.Core.Path.{◌≡◌, refl, ap}
use mathlib.Core.Bool.{Bool, true, false}
use mathlib.Core.Logic.{◌⊎◌, inl, inr}
use mathlib.Core.List.{List}
use Prim.Native.Nat.{ℕ}
use native.Mathlib.Omega.{arith}
use Rattle.laws.specs.Decoded.{Decoded, ok, no, and_then, on_ok, return, require}

-- the number of the refusal, 0 for none: for tables of cases
abbrev pub refusal : {A : Type 0} → Decoded A → ℕ
refusal (ok a t) = 0
refusal (no r) = r

-- a refusal is no value
pub refused : {A : Type 0} {r : ℕ} {a : A} {t : List ℕ} → no r ≡ ok a t → ⊥
refused e = let z : ◌≡◌ {A = ℕ} 0 1 = cc in omega arith

-- the value that was answered
pub value : {A : Type 0} {a b : A} {t u : List ℕ} → ok a t ≡ ok b u → a ≡ b
value e = cc

module _ {A B : Type 0} where
  -- a step answered a value, and the steps behind it went on from that
  pub then_ok : (x : Decoded A) (f : A → List ℕ → Decoded B) {b : B} {t : List ℕ} → and_then x f ≡ ok b t
      → (a : A) × (u : List ℕ) × (x ≡ ok a u) × (f a u ≡ ok b t)
  then_ok (ok a u) f e = (a, u, refl, e)
  then_ok (no r) f e = absurd (refused e)

  -- a step was refused, or the steps behind it were
  pub then_refused : (x : Decoded A) (f : A → List ℕ → Decoded B) {r : ℕ} → and_then x f ≡ no r
      → (x ≡ no r) ⊎ ((a : A) × (u : List ℕ) × (x ≡ ok a u) × (f a u ≡ no r))
  then_refused (ok a u) f e = inr (a, u, refl, e)
  then_refused (no q) f e = inl (cc)

  pub on_ok_ok : (f : A → B) (x : Decoded A) {b : B} {t : List ℕ} → on_ok f x ≡ ok b t → (a : A) × (x ≡ ok a t) × (f a ≡ b)
  on_ok_ok f (ok a u) e = (a, cc, cc)
  on_ok_ok f (no r) e = absurd (refused e)

  -- a refusal under a change of the value
  pub on_ok_no : (f : A → B) (x : Decoded A) {r : ℕ} → on_ok f x ≡ no r → x ≡ no r
  on_ok_no f (ok a t) e = let z : ◌≡◌ {A = ℕ} 0 1 = cc in absurd (omega arith)
  on_ok_no f (no r) e = cc

  -- the same change by two functions that agree
  pub on_ok_same : {f g : A → B} → ((a : A) → f a ≡ g a) → (x : Decoded A) → on_ok f x ≡ on_ok g x
  on_ok_same e (ok a t) = ap (λ b. ok b t) (e a)
  on_ok_same e (no r) = refl

  -- what is left behind a value does not depend on what is made of it
  pub same_rest : (f : A → B) (x : Decoded A) {a : A} {t : List ℕ} → x ≡ ok a t → {b : B} {v : List ℕ} → on_ok f x ≡ ok b v → v ≡ t
  same_rest f x {a} {t} is {b} {v} e =
      let both : ok (f a) t ≡ ok b v = rw is at e in
      cc

-- a test held, and nothing was read
pub require_ok : {B : Type 0} (b : Bool) (r : ℕ) (s : List ℕ) (f : Unit {0} → List ℕ → Decoded B) {c : B} {t : List ℕ}
    → and_then (require b r s) f ≡ ok c t → (b ≡ true) × (f tt s ≡ ok c t)
require_ok true r s f e = (refl, e)
require_ok false r s f e = absurd (refused e)

-- steps one after the other, and changes of the value, however they are grouped
module _ {A B C : Type 0} where
  pub then_then : (x : Decoded A) (f : A → List ℕ → Decoded B) (g : B → List ℕ → Decoded C)
      → and_then (and_then x f) g ≡ and_then x (λ a t. and_then (f a t) g)
  then_then (ok a t) f g = refl
  then_then (no r) f g = refl

  pub map_map : (g : B → C) (f : A → B) (x : Decoded A) → on_ok g (on_ok f x) ≡ on_ok (λ a. g (f a)) x
  map_map g f (ok a t) = refl
  map_map g f (no r) = refl

  -- what is made of a value, and what is made of what is built from it
  pub built : (f : A → C) (g : B → C) (build : A → B) → ((a : A) → f a ≡ g (build a)) → (x : Decoded A)
      → on_ok f x ≡ on_ok g (and_then x (λ a. return (build a)))
  built f g build e (ok a t) = ap (λ c. ok c t) (e a)
  built f g build e (no r) = refl

  -- a refusal behind what was read
  pub then_no : (f : A → B) (x : Decoded A) {b : B} {w : List ℕ} → on_ok f x ≡ ok b w → (k : A → List ℕ → Decoded C) (r : ℕ) → ((a : A) → k a w ≡ no r) →
      and_then x k ≡ no r
  then_no f (ok a t) {b} {w} e k r h = let i : w ≡ t = cc in rw i at (h a)
  then_no f (no q) e k r h = absurd (refused e)

-- what is refused stays refused
pub ruleset refusals_kept = (on_ok_no, then_no)
