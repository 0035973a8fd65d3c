use Rattle.rules.proofs.BothBuffers.{second_refused, both_accepted}
use Rattle.rules.proofs.finish_rules.Goals as goal

pub returns-in-Ok : goal.returns-in-Ok
returns-in-Ok c = λ a b buffer out size room report rules. both_accepted size room a b report (rw c.in-Ok.is at rules)

pub returns-in-Err : goal.returns-in-Err
returns-in-Err c = λ a b buffer out size room report rules. second_refused size room a b c.in-Err.field-0 report (rw c.in-Err.is at rules)
