use Rattle.report.proofs.Buffers.{more_append}
use Rattle.order.specs.Printed.{printed_answer}
use Rattle.order.proofs.put_late.Goals as goal

pub returns : goal.returns
unfolding printed_answer
returns c =
    simp (c.put_text.ensures, c.put.ensures, c.put_counted-2.ensures, c.put_counted.ensures, ← more_append) at c.put-2.ensures
