use Rattle.laws.proofs.Prelude.{sym, ◌∙◌}
use Rattle.laws.proofs.Lists.{if_there}
use Rattle.sheet.specs.declared.names.Side.TheVariants.{Trailing}
use Rattle.sheet.proofs.Members.{found_reaching}
use Rattle.sheet.proofs.commented.Comments.end_group.Goals as goal

pub returns : goal.returns
returns c =
    let found = c.end_group.ensures in
    rw (← c.self.view_is)
    (record {
      answer = found;
      bounds = if_there _ c.end_group.result
          (λ g e. found_reaching c.self.invariant.grouped Trailing c.args.program.span.end (sym found ∙ e));
    })
