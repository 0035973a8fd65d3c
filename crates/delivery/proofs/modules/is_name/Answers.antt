use Rattle.laws.proofs.Prelude.{◌∙◌, rules}
use Rattle.std.proofs.Common.{tests}
use Rattle.std.proofs.lemmas.Iterator.{YieldsList-from_slice}
use Rattle.std.proofs.lemmas.Iterator.Search.{any_from_yields_List}
use Rattle.text.{specs.Bytes.same, proofs.Words.same_is}
use Rattle.delivery.specs.declared.modules.ModuleRead.{ModuleRead}
use Rattle.delivery.proofs.Rows.{among_rows}
use Rattle.delivery.proofs.modules.is_name.Goals as goal

pub returns : goal.returns
returns c =
    let text = c.args.text.now in
    let rows = c.args.modules.now in
    any_from_yields_List (λ (r : ModuleRead). same r.name.now text) _ _ _ c.any.ensures.ran (YieldsList-from_slice rows cc)
    (λ x b q k. search (rules, tests, same_is))
    ∙ among_rows text rows
