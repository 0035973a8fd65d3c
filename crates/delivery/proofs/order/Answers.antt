use Rattle.laws.proofs.Prelude.{rules, ap, ◌∙◌, length}
use Rattle.report.specs.Answer.{zeros}
use Rattle.delivery.specs.Promise.{order_as}
use Rattle.delivery.proofs.{Deliveries.decodes_exactly, Orders.order_right}
use Rattle.delivery.proofs.order.Goals as goal

pub returns : goal.returns
returns c =
    let a = c.args in
    record {
      decodes = decodes_exactly a.delivery.now;
      defined = c.order_of-order.ensures ∙ ap order_as c.judge.ensures;
      right = order_right (length a.work.now) a.delivery.now;
      cleared = c.fill.ensures.after (λ y e. e) ∙ ap zeros (search rules);
    }
