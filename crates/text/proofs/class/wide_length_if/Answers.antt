use Rattle.laws.proofs.Prelude.{arith, true, known}
use Rattle.text.proofs.{Runs.if_fits}
use Rattle.text.proofs.class.wide_length_if.Goals as goal

pub returns-then-test : goal.returns-then-test
returns-then-test g c =
    record {
      answer = λ p says. rw (← c.char_at-c.ensures, known (says _ _ c.test.ensures) c.if-test.true);
      bounds = rw c.char_at-c.ensures (if_fits (λ p. true) c.args.s.now);
    }

pub returns-else-test : goal.returns-else-test
returns-else-test g c =
    record { answer = λ p says. rw (← c.char_at-c.ensures, known (says _ _ c.test.ensures) c.if-test.false); bounds = omega arith }
