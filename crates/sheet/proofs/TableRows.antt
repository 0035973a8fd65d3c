-- The comments and the groups of a table by their index.
use Rattle.laws.proofs.Prelude.{◌≡◌, List, ℕ, ◌<◌, length, get_or}
use Rattle.std.proofs.lemmas.List.{get_or-map}
use Rattle.sheet.specs.declared.{comments.CommentRow.CommentRow, groups.GroupRow.GroupRow}
use Rattle.sheet.specs.declared.names.{CommentKind.TheVariants.Line, Side.TheVariants.Leading}
use Rattle.sheet.specs.code.Tables.{comment_in, comments_in, group_in, groups_in}
use Rattle.sheet.specs.Fit.{no_comment, comment_of, no_group, group_of}

abbrev pub no_comment_row : CommentRow
no_comment_row = record { kind = Line; start = 0; end = 0 }

pub comment_row_lem : (rows : List CommentRow) (k : ℕ) → k < length rows → comment_of (comments_in rows) k ≡ comment_in (get_or rows k no_comment_row)
comment_row_lem rows k l = get_or-map comment_in rows k no_comment_row no_comment l

abbrev pub no_group_row : GroupRow
no_group_row = record { side = Leading; position = 0; first = 0; count = 0 }

pub group_row_lem : (rows : List GroupRow) (k : ℕ) → k < length rows → group_of (groups_in rows) k ≡ group_in (get_or rows k no_group_row)
group_row_lem rows k l = get_or-map group_in rows k no_group_row no_group l
