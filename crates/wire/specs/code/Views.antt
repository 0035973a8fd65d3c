-- What is answered by what reads bytes.
use Rattle.std.specs.Prelude.{◌≡◌, List, ℕ, ◌-◌, ◌^◌, ◌≤◌, ◌<◌, Result, Ok, Err, length}
use Rattle.std.specs.Borrow.{Bor}
use Rattle.laws.specs.Decoded.{Decoded, ok, no}
use Rattle.wire.specs.declared.refusals.Refusal.{Refusal}
use Rattle.wire.specs.Refusals.{number_of}

-- what is read, with the bytes behind it, or a refusal
abbrev pub ReadResult : Type 0 → Type 0
ReadResult A = Result (A × Bor (List ℕ)) Refusal

-- what was read where the value stands for a value
abbrev pub read_with : {A B : Type 0} → (A → B) → ReadResult A → Decoded B
read_with view (Ok p) = ok (view p.0) p.1.now
read_with view (Err r) = no (number_of r)

abbrev pub read_as : {A : Type 0} → ReadResult A → Decoded A
read_as = read_with (λ v. v)

abbrev pub text_as : ReadResult (Bor (List ℕ)) → Decoded (List ℕ)
text_as = read_with (λ x. x.now)

-- what holds of what was read, and of the bytes behind it
abbrev pub PastWith : {A : Type 0} → (A → Bor (List ℕ) → Type 0) → ReadResult A → Type 0
PastWith P (Ok p) = P p.0 p.1
PastWith P (Err r) = Unit {0}

-- fewer than n bytes are left
abbrev pub Past : {A : Type 0} → ℕ → ReadResult A → Type 0
Past n = PastWith (λ v next. length next.now < n)

-- with so many of five groups left: what the next one is counted by, and a number below that, which the groups before it make up
pub record PlaceValue (left scale low : ℕ) : Type 0 where
  pub few : left ≤ 5
  pub power : scale ≡ 128 ^ (5 - left)
  pub less : low < scale
