-- Mode of document 01.
use Rattle.std.specs.Prelude.{cond, List, ℕ, Option, Some, None}
use Rattle.laws.specs.Ascii.{ascii}
use Rattle.text.specs.Bytes.{same}
use Rattle.analysis.specs.declared.mode.TypeScriptTypesResolutionMode.{TypeScriptTypesResolutionMode}
use Rattle.analysis.specs.declared.mode.TypeScriptTypesResolutionMode.TheVariants.{Import, Require}

abbrev pub Mode : Type 0
Mode = Option TypeScriptTypesResolutionMode

-- document 01's number of a mode
abbrev pub mode_number : Mode → ℕ
mode_number None = 0
mode_number (Some Import) = 1
mode_number (Some Require) = 2

-- the mode that a text names
unfoldable pub mode_of : List ℕ → Mode
mode_of x = cond (same x (ascii "import")) (Some Import) (cond (same x (ascii "require")) (Some Require) None)
