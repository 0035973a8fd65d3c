use Rattle.laws.proofs.Prelude.{sym}
use Rattle.desk.proofs.Calls.{finds_nobody, found_one, serves}
use Rattle.desk.proofs.turn.Goals as goal

pub returns-in_err-first : goal.returns-in_err-first
returns-in_err-first c = rw c.from_residual.ensures (finds_nobody _ (sym c.in_err-first.ensures))

pub serve-sheet-requires : goal.serve-sheet-requires
serve-sheet-requires c = (found_one _ _ (sym c.in_ok-first.ensures)).1

pub returns : goal.returns
returns c = rw c.number.ensures.answer (serves _ _ (sym c.in_ok-first.ensures) _ _ c.serve-sheet.ensures.left c.serve-sheet.ensures.answer)
