-- What the answers of the functions stand for.
use Rattle.std.specs.Prelude.{List, ℕ, Option, Some, None}
use Rattle.std.specs.Borrow.{Bor}
use Rattle.laws.specs.Decoded.{Decoded, ok, no}
use Rattle.wire.specs.Refusals as refusals
use Rattle.replay.specs.declared.Ran.{Ran}

-- what is read, with the bytes behind it; none where the list ends too early
abbrev found_as : {A B : Type 0} → (A → B) → Option (A × Bor (List ℕ)) → Decoded B
found_as view (Some p) = ok (view p.0) p.1.now
found_as view None = no refusals.cut_off

abbrev pub number_as : Option (ℕ × Bor (List ℕ)) → Decoded ℕ
number_as = found_as (λ n. n)

abbrev pub piece_as : Option (Bor (List ℕ) × Bor (List ℕ)) → Decoded (List ℕ)
piece_as = found_as (λ x. x.now)

abbrev pub step_as : Option (Ran × Bor (List ℕ)) → Decoded Ran
step_as = found_as (λ ran. ran)
