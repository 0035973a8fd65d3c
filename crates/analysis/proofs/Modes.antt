-- The number of a mode is 0, 1 or 2.
use Rattle.std.specs.Prelude.{Some, None}
use Rattle.laws.proofs.Prelude.{◌≤◌, arith}
use Rattle.analysis.specs.declared.mode.TypeScriptTypesResolutionMode.TheVariants.{Import, Require}
use Rattle.analysis.specs.Mode.{Mode, mode_number}

pub number_small : (m : Mode) → mode_number m ≤ 2
number_small None = omega arith
number_small (Some Import) = omega arith
number_small (Some Require) = omega arith
