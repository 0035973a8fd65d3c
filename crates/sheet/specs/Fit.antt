-- What holds of the comments and the groups of a sheet.
use Rattle.std.specs.Prelude.{◌≡◌, ◌⊎◌, ℕ, ◌+◌, ◌≤◌, ◌<◌, length, get_or}
use mathlib.Core.List.{List, ◌++◌, Memᴰ}
use Rattle.text.specs.Position.{Boundary}
use Rattle.sheet.specs.declared.comments.Comment.{Comment}
use Rattle.sheet.specs.declared.groups.Group.{Group}
use Rattle.sheet.specs.declared.names.CommentKind.TheVariants.{Line}
use Rattle.sheet.specs.declared.names.Side.TheVariants.{Leading}
use Rattle.sheet.specs.Names.{side_number}
use Rattle.sheet.specs.Comments.{opening, closing, slice}
use Rattle.sheet.specs.Lookups.{body}

-- a comment of the source: from one boundary to another; it is a body with the marks of its kind around it
pub record Placed (source : List ℕ) (c : Comment) : Type 0 where
  pub start : Boundary source c.span.start
  pub end : Boundary source c.span.end
  pub order : c.span.start ≤ c.span.end
  pub marks : slice source c.span ≡ opening c.kind ++ (body source c ++ closing c.kind)

-- the comment of an index; past the last, an empty one
abbrev pub no_comment : Comment
no_comment = record { kind = Line; span = record { start = 0; end = 0 } }

abbrev pub comment_of : List Comment → ℕ → Comment
comment_of cs k = get_or cs k no_comment

-- comments of the source in order, no two of which overlap
pub record Fit (source : List ℕ) (cs : List Comment) : Type 0 where
  pub each : (k : ℕ) → k < length cs → Placed source (comment_of cs k)
  pub apart : (j k : ℕ) → j < k → k < length cs → (comment_of cs j).span.end ≤ (comment_of cs k).span.start

-- a group of at least one of so many comments
pub record Reaching (total : ℕ) (g : Group) : Type 0 where
  pub some : 0 < g.count
  pub reach : g.first + g.count ≤ total

-- the group of an index; past the last, one of no comment
abbrev pub no_group : Group
no_group = record { side = Leading; position = 0; first = 0; count = 0 }

abbrev pub group_of : List Group → ℕ → Group
group_of gs k = get_or gs k no_group

-- a group comes before another: it is on an earlier side, or on the same side at an earlier position
abbrev pub Precedes : Group → Group → Type 0
Precedes g h = (side_number g.side < side_number h.side) ⊎ ((g.side ≡ h.side) × (g.position < h.position))

-- each group comes before those after it
pub record Ascending (gs : List Group) : Type 0 where
  pub rise : (j k : ℕ) → j < k → k < length gs → Precedes (group_of gs j) (group_of gs k)

-- groups of so many comments, in order
pub record Grouped (total : ℕ) (gs : List Group) : Type 0 where
  pub each : (k : ℕ) → k < length gs → Reaching total (group_of gs k)
  pub ascending : Ascending gs

-- the comment of an index is in the group
abbrev pub Holds : Group → ℕ → Type 0
Holds g i = (g.first ≤ i) × (i < g.first + g.count)

-- and in some group of a list
pub record HeldBySome (gs : List Group) (i : ℕ) : Type 0 where
  pub group : Group
  pub member : Memᴰ group gs
  pub holds : Holds group i
