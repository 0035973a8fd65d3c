use Rattle.std.proofs.lemmas.List.Elements.{All-tail}
use Rattle.sheet.specs.Fit.{Placed}
use Rattle.sheet.specs.code.Tables.{comment_in, comments_in}
use Rattle.sheet.proofs.commented.PlacedCommentsIterator.next.Goals as goal

pub invariant_of-self : goal.invariant_of-self
invariant_of-self c =
    All-tail (Placed c.self.inside.comments.now.source) (comment_in c.in_ok-row.row.now) (comments_in c.in_ok-row.rest.now)
    (rw c.in_ok-row.ensures.cases.0 at c.self.invariant)
