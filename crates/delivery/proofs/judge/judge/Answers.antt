use Rattle.laws.proofs.Prelude.{◌≡◌, rules, sym, ap, ◌∙◌, []}
use Rattle.delivery.specs.{Order.refused, Order.order_of, Order.modules_in_turn, code.Views.modules_in, code.Views.checked_as}
use Rattle.delivery.proofs.Orders.{names_differ, none_refused}
use Rattle.delivery.proofs.judge.judge.Goals as goal

pub returns-in_err-judge_sheets : goal.returns-in_err-judge_sheets
returns-in_err-judge_sheets c =
    let read = sym c.check_delivery.ensures ∙ ap checked_as c.in-Some.is in
    let differ = names_differ _ _ read (sym c.has_name_twice.ensures ∙ c.if-has_name_twice.false) in
    let sheets = rw c.in_err-judge_sheets.was at (c.judge_sheets.ensures.answer (modules_in_turn [] 0 (modules_in c.in-Some.modules.now))) in
    let told : refused _ _ ≡ order_of _ _ = sheets ∙ sym differ in
    search rules

pub returns : goal.returns
returns c =
    let read = sym c.check_delivery.ensures ∙ ap checked_as c.in-Some.is in
    let differ = names_differ _ _ read (sym c.has_name_twice.ensures ∙ c.if-has_name_twice.false) in
    let sheets = rw c.in_ok-judge_sheets.was at c.judge_sheets.ensures.answer in
    let order = rw c.judge_sheets.ensures.left at c.judge_order.ensures in
    order (none_refused _ _ sheets) ∙ sheets (modules_in_turn [] 0 (modules_in c.in-Some.modules.now)) ∙ sym differ
