use Rattle.laws.proofs.Prelude.{◌≡◌, [], take, drop}
use Rattle.delivery.specs.{Order.repeated, Right.names_of, code.Views.modules_in}
use Rattle.delivery.proofs.modules.has_name_twice.Given as goal

abbrev pub invariant-loop-i : goal.invariant-loop-i
invariant-loop-i l = repeated [] (modules_in l.modules) ≡ repeated (names_of (modules_in (take l.i l.modules))) (modules_in (drop l.i l.modules))
