use Rattle.laws.proofs.Prelude.{ap}
use Rattle.std.proofs.lemmas.List.{length-map}
use Rattle.sheet.specs.code.Commented.{Commented}
use Rattle.sheet.specs.Fit.{comment_of}
use Rattle.sheet.proofs.TableRows.{comment_row_lem}
use Rattle.sheet.proofs.commented.Comments.at.Goals as goal

pub new-requires : goal.new-requires
new-requires c =
    let inside = rw (← c.self.view_is) at c.requires in
    rw (← c.self.view_is, c.from.ensures, ← (comment_row_lem c.self.inside.rows.now c.args.k (rw length-map at inside)))
    (c.self.invariant.fit.each c.args.k inside)

pub returns : goal.returns
returns c =
    let inside = rw (← c.self.view_is) at c.requires in
    rw (c.new.ensures, c.from.ensures, ← (comment_row_lem c.self.inside.rows.now c.args.k (rw length-map at inside)))
    (ap (λ (v : Commented). record { source = c.args.self.now.source; comment = comment_of v.comments c.args.k }) c.self.view_is)
