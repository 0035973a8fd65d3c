use Rattle.laws.proofs.Prelude.{length}
use Rattle.sheet.proofs.Filling.{Filling}
use Rattle.delivery.specs.{Delivery.Module, Delivery.named_sheet, code.Views.module_as}
use Rattle.delivery.proofs.modules.read_modules.Given as goal

abbrev pub invariant-loop-row : goal.invariant-loop-row
invariant-loop-row l =
    Filling (λ (u : Unit {0}). named_sheet) (λ (m : Module). tt) module_as tt (length l.initial.rows) l.initial.next l.rows tt l.row-index l.next
