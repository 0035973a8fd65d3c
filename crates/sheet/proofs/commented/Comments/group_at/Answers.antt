use Rattle.laws.proofs.Prelude.{sym, ◌∙◌}
use Rattle.laws.proofs.Lists.{if_there}
use Rattle.sheet.proofs.Members.{found_reaching}
use Rattle.sheet.proofs.commented.Comments.group_at.Goals as goal

pub returns : goal.returns
returns c =
    let found = c.find_group.ensures in
    rw (← c.self.view_is)
    (record {
      answer = found;
      bounds = if_there _ c.find_group.result
          (λ g e. found_reaching c.self.invariant.grouped c.args.side c.args.position (sym found ∙ e));
    })
