-- The groups and the comments that the readings ask for.
use Rattle.std.specs.Prelude.{Bool, cond, ◌&&◌, ℕ, ◌+◌, ◌-◌, ◌≤◌, eqb, length, take, drop, None, Option, Some}
use Rattle.laws.specs.Last.{last_of}
use mathlib.Core.List.{List, [], ◌∷◌}
use Rattle.sheet.specs.declared.fields.Span.{Span}
use Rattle.sheet.specs.declared.comments.Comment.{Comment}
use Rattle.sheet.specs.declared.groups.Group.{Group}
use Rattle.sheet.specs.declared.names.Side.{Side}
use Rattle.sheet.specs.declared.names.Side.TheVariants.{Leading, Trailing}
use Rattle.sheet.specs.Names.{side_number}
use Rattle.sheet.specs.Comments.{slice, opening, closing}
use Rattle.sheet.specs.Program.{Program}

abbrev pub stands_at : Group → Side → ℕ → Bool
stands_at g side position = eqb (side_number g.side) (side_number side) && eqb g.position position

-- the group of a side at a position
unfoldable pub group_at : List Group → Side → ℕ → Option Group
group_at [] side position = None
group_at (g ∷ gs) side position = cond (stands_at g side position) (Some g) (group_at gs side position)

-- the trailing group at the program's end
abbrev pub end_group : Program → List Group → Option Group
end_group p gs = group_at gs Trailing p.span.end

-- by the first item's start, if there is one
abbrev pub head_by : Program → List Group → Option ℕ → Option Group
head_by p gs (Some item) = group_at gs Leading item
head_by p gs None = cond p.shebang (end_group p gs) (group_at gs Leading p.span.start)

-- the head group: the leading group at the first item; with no item, the trailing group at the program's end if there is a shebang, else the leading
-- group at its start
unfoldable pub head_group : Program → List Group → Option Group
head_group p gs = head_by p gs p.first

-- the comments of a group, and the last of them
abbrev pub comments_of : List Comment → Group → List Comment
comments_of cs g = take g.count (drop g.first cs)

abbrev pub last_comment_of : List Comment → Group → Option Comment
last_comment_of cs g = last_of (comments_of cs g)

-- the comments of a group, none if there is no such group
abbrev pub in_group : List Comment → Option Group → List Comment
in_group cs None = []
in_group cs (Some g) = comments_of cs g

-- the comment is no shorter than its marks
abbrev pub HoldsMarks : Comment → Type 0
HoldsMarks c = c.span.start + (length (opening c.kind) + length (closing c.kind)) ≤ c.span.end

-- where the body of a comment stands: its span without the marks
unfoldable pub body_span : Comment → Span
body_span c = record { start = c.span.start + length (opening c.kind); end = c.span.end - length (closing c.kind) }

abbrev pub body : List ℕ → Comment → List ℕ
body source c = slice source (body_span c)
