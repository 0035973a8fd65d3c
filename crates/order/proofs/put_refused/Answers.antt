use Rattle.report.proofs.Buffers.{more_append}
use Rattle.order.specs.Printed.{printed_answer}
use Rattle.order.proofs.put_refused.Goals as goal

pub returns : goal.returns
unfolding printed_answer
returns c =
    simp (c.put_counted-2.ensures, c.put_counted.ensures, c.from.ensures, c.number.ensures, ← more_append) at c.put.ensures
