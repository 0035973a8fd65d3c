-- Two sheets that differ only in the body of one comment.
use Rattle.std.specs.Prelude.{◌≡◌, ◌⊎◌, List, ℕ, ◌≤◌, ◌<◌, length, take, drop, Option}
use Rattle.laws.specs.Codec.{All, IfThere}
use Rattle.text.specs.Position.{Units, characters, utf16, position_of}
use Rattle.sheet.specs.declared.fields.Span.{Span}
use Rattle.sheet.specs.declared.groups.Group.{Group}
use Rattle.sheet.specs.Fit.{comment_of, Holds}
use Rattle.sheet.specs.Lookups.{body_span}
use Rattle.sheet.specs.Recorded.{recorded}
use Rattle.sheet.specs.Sheet.{Sheet}

-- a place is not inside a span: not strictly between its start and its end
abbrev pub Outside : Span → ℕ → Type 0
Outside sp at = (at ≤ sp.start) ⊎ (sp.end ≤ at)

-- two texts have the same line and column at a place
abbrev pub SameAt : Units → List ℕ → List ℕ → ℕ → Type 0
SameAt unit s r at = position_of unit s at ≡ position_of unit r at

-- where the body of the comment of an index stands
abbrev pub body_of : Sheet → ℕ → Span
body_of t k = body_span (comment_of t.comments k)

-- no group, or one that lacks the comment of an index
abbrev pub Lacks : ℕ → Option Group → Type 0
Lacks k = IfThere (λ g. Holds g k → ⊥)

-- u is t with its kth comment reworded
pub record Revision (t u : Sheet) (k : ℕ) : Type 0 where
  pub there : k < length t.comments
  -- "differ only in the body of one comment": all but the source is the same, and the sources are equal in front of that body and behind it
  pub media : t.media ≡ u.media
  pub comments : t.comments ≡ u.comments
  pub groups : t.groups ≡ u.groups
  pub program : t.program ≡ u.program
  pub root : t.root ≡ u.root
  pub front : take (body_of t k).start t.source ≡ take (body_of t k).start u.source
  pub behind : drop (body_of t k).end t.source ≡ drop (body_of t k).end u.source
  -- "with equal byte length"
  pub size : length t.source ≡ length u.source
  -- "the same line and column at its end, in characters"
  pub in_characters : SameAt characters t.source u.source (body_of t k).end
  -- "and in UTF-16 units alike"
  pub in_units : SameAt utf16 t.source u.source (body_of t k).end
  -- "and no other recorded position inside it"
  pub apart : All (Outside (body_of t k)) (recorded t)
