use Rattle.laws.proofs.Prelude.{◌≡◌, [], length, take, drop}
use Rattle.laws.specs.Codec.{All}
use Rattle.delivery.specs.{Order.modules_in_turn, Right.Reported, Right.names_of, code.Views.modules_in}
use Rattle.delivery.proofs.judge.judge_order.Given as goal

abbrev pub invariant-loop-i : goal.invariant-loop-i
invariant-loop-i l =
    let ms = modules_in l.modules in
    (length l.work ≡ length l.initial.work)
    × (All (Reported (length l.initial.work)) ms
    → modules_in_turn [] 0 ms ≡ modules_in_turn (names_of (modules_in (take l.i l.modules))) l.i (modules_in (drop l.i l.modules)))
