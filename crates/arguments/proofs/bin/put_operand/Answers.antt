use Rattle.report.proofs.Buffers.{wrote_keeps}
use Rattle.arguments.proofs.Chains.{string_operand, no_text}
use Rattle.arguments.proofs.bin.put_operand.Goals as goal

pub returns-in-String : goal.returns-in-String
returns-in-String c = record {
  answer = λ n t e. rw (string_operand (rw c.in-String.is at (c.read_expression.ensures.answer n t e))) c.put_string.ensures;
  left = wrote_keeps _ _ _ c.put_string.ensures;
}

pub returns-in-Template : goal.returns-in-Template
returns-in-Template c = record {
  answer = λ n t e. rw (no_text _ _ _ (c.read_expression.ensures.answer n t e) c.in-Template.is) c.put_expr.ensures;
  left = wrote_keeps _ _ _ c.put_expr.ensures;
}
