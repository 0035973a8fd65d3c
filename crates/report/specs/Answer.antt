-- What the report function answers: a refusal's number or 0, the report's length, and every byte of the buffer.
use Rattle.std.specs.Prelude.{cond, List, ◌++◌, ℕ, ◌-◌, leb, length, take, replicate, Result, Ok, Err}
use Rattle.wire.specs.Refusals as refusals
use Rattle.wire.specs.declared.refusals.Refusal.{Refusal}
use Rattle.wire.specs.Refusals.{number_of}
use Rattle.report.specs.Buffer.{Buffer, holds, full}

pub record Answer : Type 0 where
  pub number : ℕ
  pub written : ℕ
  pub buffer : List ℕ

abbrev pub zeros : ℕ → List ℕ
zeros n = replicate n 0

-- a buffer with zeros from a place to its end
abbrev pub cleared_from : ℕ → List ℕ → List ℕ
cleared_from at out = take at out ++ zeros (length out - at)

-- a refusal: length 0, and the whole buffer is zero
abbrev pub refused_with : ℕ → ℕ → Answer
refused_with number size = record { number = number; written = 0; buffer = zeros size }

-- an acceptance: the bytes begin the buffer, and every byte past them is zero
abbrev pub accepted : ℕ → List ℕ → Answer
accepted size bytes = record { number = 0; written = length bytes; buffer = bytes ++ zeros (size - length bytes) }

-- a report in a buffer of so many bytes; refusal 10 where it is longer
unfoldable pub fitted : ℕ → List ℕ → Answer
fitted size bytes = cond (leb (length bytes) size) (accepted size bytes) (refused_with refusals.buffer size)

-- the answer once all is written
abbrev pub answered : ℕ → Buffer → Answer
answered size (holds n bytes) = accepted size bytes
answered size (full n) = refused_with refusals.buffer size

-- what the code answers: the report's length, or a refusal
abbrev pub Outcome : Type 0
Outcome = Result ℕ Refusal

-- what a length or a refusal stands for by the refusals' numbers, with what the buffer has then
abbrev pub numbered_as : {E : Type 0} → (E → ℕ) → Result ℕ E → List ℕ → Answer
numbered_as number (Ok n) buffer = record { number = 0; written = n; buffer = buffer }
numbered_as number (Err r) buffer = record { number = number r; written = 0; buffer = buffer }

-- what the code's answer stands for
abbrev pub outcome_as : Outcome → List ℕ → Answer
outcome_as = numbered_as number_of
