-- What holds of the answer to no bytes.
use Rattle.std.specs.Prelude.{◌≡◌, ℕ}
use Rattle.sheet.specs.Sheet.{Sheet}
use Rattle.sheet_codec.specs.SheetOf.{SheetOf}
use Rattle.report.specs.Encode.{encode}
use Rattle.report.specs.Answer.{Answer, zeros, fitted}
use Rattle.module_info.specs.Information.{module_info, default_info}
use Rattle.module_info.specs.Report.{ReportRight}

-- with the size of the lent buffer
pub record EmptyRight (size : ℕ) (answer : Answer) : Type 0 where
  -- eight zero bytes if the buffer can hold them, else 10; either way the whole buffer is zero
  pub answered : answer ≡ fitted size (zeros 8)
  -- they are the report of the default information
  pub bytes : encode default_info ≡ zeros 8
  -- which is as every other report
  pub report : ReportRight default_info
  -- the smallest sheet, thirteen zero bytes, has information of the same value
  pub smallest : (t : Sheet) × SheetOf (zeros 13) t × (module_info t ≡ default_info)
