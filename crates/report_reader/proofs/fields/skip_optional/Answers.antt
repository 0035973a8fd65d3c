use Rattle.report_reader.proofs.{FromBytes.none_skipped, FromBytes.some_skipped}
use Rattle.report_reader.proofs.fields.skip_optional.Goals as goal

pub returns-then-flag : goal.returns-then-flag
returns-then-flag g c = some_skipped c.read_flag-flag.ensures.answer _ _ c.if-flag.true c.skip.ensures

pub returns-else-flag : goal.returns-else-flag
returns-else-flag g c = none_skipped c.read_flag-flag.ensures.answer _ _ c.if-flag.false
