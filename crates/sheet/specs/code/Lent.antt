-- The comments and groups of a source in tables, and the index of its positions, as they are lent to the readings.
use Rattle.std.specs.Prelude.{List, ℕ, length}
use Rattle.std.specs.Prelude.{Option}
use Rattle.laws.specs.Codec.{IfThere}
use Rattle.text.specs.declared.position.Position.{Position}
use Rattle.text.specs.code.Index.{IndexOf}
use Rattle.sheet.specs.declared.comments.CommentRow.{CommentRow}
use Rattle.sheet.specs.declared.groups.Group.{Group}
use Rattle.sheet.specs.declared.groups.GroupRow.{GroupRow}
use Rattle.sheet.specs.code.Tables.{comments_in, groups_in}
use Rattle.sheet.specs.code.Commented.{Commented}
use Rattle.sheet.specs.Fit.{Fit, Grouped, Reaching}

-- a source with the comments in these rows, in these groups; and in the groups in these rows
abbrev pub grouped_by : List ℕ → List CommentRow → List Group → Commented
grouped_by source rows groups = record { source = source; comments = comments_in rows; groups = groups }

abbrev pub commented_by : List ℕ → List CommentRow → List GroupRow → Commented
commented_by source rows groups = grouped_by source rows (groups_in groups)

-- what holds of them, with an index of the source's positions
pub record Lends (c : Commented) (index : List Position) : Type 0 where
  pub fit : Fit c.source c.comments
  pub grouped : Grouped (length c.comments) c.groups
  pub indexed : IndexOf c.source index

-- the group, if there is one, is of the comments
abbrev pub GroupOf : Commented → Option Group → Type 0
GroupOf c = IfThere (Reaching (length c.comments))
