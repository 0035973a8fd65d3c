use Rattle.report_reader.proofs.{FromBytes.flag_told}
use Rattle.report_reader.proofs.fields.read_flag.Goals as goal

pub returns-clause-answer : goal.returns-clause-answer
returns-clause-answer c = flag_told c.read_number-byte.ensures.read
