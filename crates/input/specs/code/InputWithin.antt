-- Where what was read of an input stands.
use Rattle.std.specs.Prelude.{List, ℕ, Result, Ok, Err}
use Rattle.io.specs.Counts.{IsPrefixLen}

-- at the start of the buffer
abbrev pub InputWithin : {E : Type 0} → List ℕ → Result ℕ E → Type 0
InputWithin buffer (Ok n) = IsPrefixLen n buffer
InputWithin buffer (Err e) = Unit {0}
