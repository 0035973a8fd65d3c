use Rattle.report_reader.proofs.{FromBytes.none_skipped, FromBytes.some_skipped}
use Rattle.report_reader.proofs.fields.skip_optional_in.Goals as goal

pub returns-then-flag-clause-answer : goal.returns-then-flag-clause-answer
returns-then-flag-clause-answer g c = some_skipped c.read_flag-flag.ensures.answer _ _ c.if-flag.true c.skip_in.ensures.answer

pub returns-else-flag-clause-answer : goal.returns-else-flag-clause-answer
returns-else-flag-clause-answer g c = none_skipped c.read_flag-flag.ensures.answer _ _ c.if-flag.false
