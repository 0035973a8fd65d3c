use Rattle.laws.proofs.Prelude.{refl, sym, ap, ◌∙◌}
use Rattle.sheet.proofs.Filling.{fill_more}
use Rattle.wire.specs.code.Views.{read_with}
use Rattle.delivery.specs.code.Views.{module_as}
use Rattle.delivery.proofs.modules.read_modules.Goals as goal

pub loop-row-preserved : goal.loop-row-preserved
loop-row-preserved c =
    let read = sym c.check_module.ensures ∙ ap (read_with module_as) c.in_ok-module.was in
    fill_more c.loop-row.invariant c.loop-row-test.true read c.in_ok-module.module refl
