-- What the check says of a sheet, and the judge of bytes.
use Rattle.std.specs.Prelude.{◌≡◌, List, [], ℕ, ◌<◌, length, Option, Some, None, Result, Ok, Err}
use Rattle.laws.specs.Decoded.{no}
use Rattle.wire.specs.declared.refusals.Refusal.{Refusal}
use Rattle.wire.specs.Refusals.{number_of}
use Rattle.sheet.specs.Sheet.{accept}

-- a sheet is accepted, by a value of these bytes, or refused
abbrev pub ChecksAs : {A : Type 0} → (A → List ℕ) → List ℕ → Result A Refusal → Type 0
ChecksAs bytes s (Ok a) = bytes a ≡ s
ChecksAs bytes s (Err r) = accept s ≡ no (number_of r)

-- there are none, or they are an accepted sheet, by a value of these bytes, or they are refused
abbrev pub JudgedAs : {A : Type 0} → (A → List ℕ) → List ℕ → Result (Option A) Refusal → Type 0
JudgedAs bytes s (Ok None) = s ≡ []
JudgedAs bytes s (Ok (Some a)) = bytes a ≡ s
JudgedAs bytes s (Err r) = (0 < length s) × (accept s ≡ no (number_of r))
