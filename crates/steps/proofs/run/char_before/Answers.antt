use Rattle.laws.proofs.Prelude.{rules, ◌<◌}
use Rattle.steps.proofs.{Bytes.precedes}
use Rattle.steps.proofs.run.char_before.Goals as goal

pub returns : goal.returns
returns c =
    let l : c.unwrap_or.result < c.args.end = search rules in
    record { answer = precedes c.args.s.now c.args.end c.unwrap_or.result (λ j h k. search rules) (λ z. search rules) l; bounds = l }
