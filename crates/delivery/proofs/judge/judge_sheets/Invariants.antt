use Rattle.laws.proofs.Prelude.{◌≡◌, length, drop}
use Rattle.delivery.specs.{Order.Answer, Order.sheets_in_turn, code.Views.modules_in}
use Rattle.delivery.proofs.judge.judge_sheets.Given as goal

abbrev pub invariant-loop-i : goal.invariant-loop-i
invariant-loop-i l =
    let size = length l.initial.work in
    (length l.work ≡ size)
    × ((behind : Answer) → sheets_in_turn size 0 (modules_in l.modules) behind ≡ sheets_in_turn size l.i (modules_in (drop l.i l.modules)) behind)
