use Rattle.laws.proofs.Prelude.{length}
use Rattle.sheet.specs.{Comments.comment, Comments.end_of, code.Tables.comment_in}
use Rattle.sheet.proofs.Filling.{Filling}
use Rattle.sheet.proofs.comments.read_comments.Given as goal

abbrev pub invariant-loop-row : goal.invariant-loop-row
invariant-loop-row l =
    Filling (comment l.source) end_of comment_in 0 (length l.initial.table) l.s l.table l.last l.row-index l.next
