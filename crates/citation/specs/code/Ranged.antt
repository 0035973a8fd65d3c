-- A dynamic argument with its range, as they stand in a report.
use Rattle.std.specs.Prelude.{List, ◌++◌, ℕ}
use Rattle.report.specs.ModuleInfo.{PositionRange, DynamicArgument}
use Rattle.report.specs.Encode.{encode_range, encode_argument}
use Rattle.report.specs.Valid.{ValidRange, ValidArgument}

abbrev pub encode_ranged : DynamicArgument × PositionRange → List ℕ
encode_ranged a = encode_argument a.0 ++ encode_range a.1

abbrev pub ValidRanged : DynamicArgument × PositionRange → Type 0
ValidRanged a = ValidArgument a.0 × ValidRange a.1
