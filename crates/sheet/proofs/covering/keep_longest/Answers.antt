use Rattle.laws.proofs.Prelude.{◌∙◌}
use Rattle.std.proofs.lemmas.List.{length-map}
use Rattle.sheet.proofs.TableRows.{group_row_lem}
use Rattle.sheet.proofs.Coverings.{keep_more, keep_all}
use Rattle.sheet.proofs.covering.keep_longest.Goals as goal

pub loop-row-preserved : goal.loop-row-preserved
loop-row-preserved c =
    let l = c.loop-row in
    let inside = c.loop-row-test.true in (
      c.raise.auto.longest ∙ l.invariant.0,
      keep_more l.invariant.1 (rw length-map inside) (rw (group_row_lem c.args.groups.now l.row-index inside, ← l.invariant.0) c.raise.ensures),
    )

pub returns : goal.returns
returns c = keep_all c.loop-row.invariant.1 (rw length-map c.loop-row-test.false)
