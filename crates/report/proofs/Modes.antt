-- Each mode has its own number.
use Rattle.laws.proofs.Prelude.{◌≡◌, refl}
use Rattle.std.specs.Prelude.{None, Some}
use Rattle.wire.{specs.Fields.value_of, proofs.Numbered.Numbers, proofs.Numbered.numbers}
use Rattle.analysis.specs.declared.mode.TypeScriptTypesResolutionMode.TheVariants.{Import, Require}
use Rattle.analysis.specs.Mode.{Mode, mode_number}
use Rattle.report.specs.Decode.{modes}

pub mode_numbers : Numbers mode_number modes
mode_numbers = numbers mode_number modes back refl
  where
    back : (m : Mode) → value_of modes (mode_number m) ≡ m
    back None = refl
    back (Some Import) = refl
    back (Some Require) = refl
