-- An answer before both buffers are cleared.
use Rattle.std.specs.Prelude.{List, ℕ, length, Ok, Err}
use Rattle.wire.specs.Refusals.{number_of}
use Rattle.rules.specs.Rules.{Answers, refused_both, Ruled, both_as}

-- what an answer stands for once a refusal has cleared the buffers
abbrev pub cleared_as : Ruled → List ℕ → List ℕ → Answers
cleared_as (Ok l) buffer rules = both_as (Ok l) buffer rules
cleared_as (Err r) buffer rules = refused_both (number_of r) (length buffer) (length rules)
