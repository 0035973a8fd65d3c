-- What holds of every report.
use Rattle.std.specs.Prelude.{◌≡◌, List, ◌++◌, ℕ}
use Rattle.laws.specs.Decoded.{ok}
use Rattle.text.specs.declared.utf8.Encoding.TheVariants.{Utf8}
use Rattle.sheet.specs.Limits.{source_limit}
use Rattle.sheet_codec.specs.Limits.{TextFits}
use Rattle.report.specs.ModuleInfo.{ModuleInfo}
use Rattle.report.specs.Encode.{encode}
use Rattle.report.specs.Decode.{report}
use Rattle.report.specs.Valid.{Valid}
use Rattle.report.specs.Texts.{EachText}

pub record ReportRight (m : ModuleInfo) : Type 0 where
  -- each count, length, line and column is a number that 01 allows, each byte one of its field's
  pub fits : Valid m
  -- its bytes, whatever follows them, are read back as it, and just what follows is left
  pub back : (u : List ℕ) → report (encode m ++ u) ≡ ok m u
  -- each text is well-formed UTF-8, and has at most 32,768 bytes
  pub texts : EachText (TextFits Utf8 source_limit) m
