use Rattle.laws.proofs.Prelude.{arith}
use Rattle.laws.proofs.Among.{end_none}
use Rattle.report_reader.proofs.FromBytes.{number_in}
use Rattle.report_reader.proofs.fields.read_number.Goals as goal

pub returns : goal.returns
returns c = number_in _ c.number.result _ c.number.ensures.answer (omega arith) (end_none _) c.unwrap_or.ensures
