use Rattle.laws.proofs.Prelude.{length}
use Rattle.sheet.specs.Comments.{anywhere, group, may_follow}
use Rattle.sheet.specs.code.{Tables.group_in, Views.after_as}
use Rattle.sheet.proofs.Filling.{Filling}
use Rattle.sheet.proofs.groups.read_groups.Given as goal

abbrev pub invariant-loop-row : goal.invariant-loop-row
invariant-loop-row l =
    Filling (group l.source l.total) may_follow group_in anywhere (length l.initial.table) l.s l.table (after_as l.before)
    l.row-index l.next
