use Rattle.laws.proofs.Among.{end_whole, end_further}
use Rattle.report_reader.proofs.{FromBytes.text_or, Parts.split_or}
use Rattle.report_reader.proofs.fields.read_text.Goals as goal

pub returns-clause-answer : goal.returns-clause-answer
returns-clause-answer c = text_or c.read_number-n.ensures.read c.split_at_checked.result _ c.split_at_checked.ensures.cases c.unwrap_or.ensures

pub returns-clause-rest : goal.returns-clause-rest
returns-clause-rest c =
    end_further c.read_number-n.ensures.rest
    (split_or _ _ c.split_at_checked.result _ c.split_at_checked.ensures.cases (end_whole _) c.unwrap_or.ensures)
