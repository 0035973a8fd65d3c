use Rattle.laws.proofs.Prelude.{handed}
use Rattle.steps.proofs.Tables.{too_long, refuses, accepts}
use Rattle.steps.proofs.match_row.Goals as goal

pub returns-then-table-gt-LONGEST_TABLE : goal.returns-then-table-gt-LONGEST_TABLE
returns-then-table-gt-LONGEST_TABLE c = too_long c.args.table.now c.args.body.now c.if-table-gt-LONGEST_TABLE.true

pub returns-in_err-check : goal.returns-in_err-check
returns-in_err-check c =
    rw (handed _ c.from_residual.ensures) (refuses c.args.table.now c.args.body.now c.if-table-gt-LONGEST_TABLE.false c.in_err-check.ensures)

pub returns : goal.returns
returns c = accepts c.args.table.now c.args.body.now c.if-table-gt-LONGEST_TABLE.false c.in_ok-check.ensures c.find_row.ensures
