-- A source with the comments in it, in their groups.
use Rattle.std.specs.Prelude.{List, ℕ}
use Rattle.sheet.specs.declared.comments.Comment.{Comment}
use Rattle.sheet.specs.declared.groups.Group.{Group}

pub record Commented : Type 0 where
  pub source : List ℕ
  pub comments : List Comment
  pub groups : List Group

-- a comment with the source that it stands in
pub record CommentIn : Type 0 where
  pub source : List ℕ
  pub comment : Comment

-- a comment as it stands in a source
abbrev pub placed_in : List ℕ → Comment → CommentIn
placed_in source c = record { source = source; comment = c }
