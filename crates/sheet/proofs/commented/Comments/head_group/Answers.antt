use Rattle.laws.proofs.Prelude.{sym, ◌∙◌}
use Rattle.laws.proofs.Lists.{if_there}
use Rattle.sheet.proofs.Members.{head_reaching}
use Rattle.sheet.proofs.commented.Comments.head_group.Goals as goal

pub returns : goal.returns
returns c =
    let found = c.head_group.ensures in
    rw (← c.self.view_is)
    (record { answer = found; bounds = if_there _ c.head_group.result (λ g e. head_reaching c.self.invariant.grouped c.args.program (sym found ∙ e)) })
