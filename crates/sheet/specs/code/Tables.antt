-- Comments and groups in tables, a row for each.
use Rattle.std.specs.Prelude.{List, map}
use Rattle.sheet.specs.declared.comments.Comment.{Comment}
use Rattle.sheet.specs.declared.comments.CommentRow.{CommentRow}
use Rattle.sheet.specs.declared.groups.Group.{Group}
use Rattle.sheet.specs.declared.groups.GroupRow.{GroupRow}

-- the comment in a row, and those in a table
abbrev pub comment_in : CommentRow → Comment
comment_in row = record { kind = row.kind; span = record { start = row.start; end = row.end } }

abbrev pub comments_in : List CommentRow → List Comment
comments_in = map comment_in

-- the group in a row, and those in a table
abbrev pub group_in : GroupRow → Group
group_in row = record { side = row.side; position = row.position; first = row.first; count = row.count }

abbrev pub groups_in : List GroupRow → List Group
groups_in = map group_in
