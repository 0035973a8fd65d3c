-- Comments and the groups that they stand in.
use Rattle.std.specs.Prelude.{Bool, true, false, not, ◌&&◌, ◌||◌, List, [], ◌∷◌, ◌++◌, ℕ, zero, suc, ◌+◌, ◌-◌, eqb, leb, ltb, length, drop}
use Rattle.laws.specs.Decoded.{Decoder, on_ok, ◌>>=◌, ◌>>◌, return, require}
use Rattle.laws.specs.Ascii.{ascii}
use Rattle.text.specs.Bytes.{part, begins}
use Rattle.wire.specs.Refusals as refusals
use Rattle.wire.specs.Fields.{numbered}
use Rattle.wire.specs.Number.{number, encode_number}
use Rattle.sheet.specs.declared.fields.Span.{Span}
use Rattle.sheet.specs.declared.comments.Comment.{Comment}
use Rattle.sheet.specs.declared.groups.Group.{Group}
use Rattle.sheet.specs.declared.names.CommentKind.{CommentKind}
use Rattle.sheet.specs.declared.names.CommentKind.TheVariants.{Line, Block, HtmlOpen, HtmlClose}
use Rattle.sheet.specs.declared.names.Side.{Side}
use Rattle.sheet.specs.Names.{kind_number, comment_kinds, side_number, sides}
use Rattle.sheet.specs.Fields.{position, end_from, encode_span}

-- the bytes of the source in a span
abbrev pub slice : List ℕ → Span → List ℕ
slice source sp = part source sp.start sp.end

-- the marks that open and close a comment
pub record Marks : Type 0 where
  pub opening : List ℕ
  pub closing : List ℕ

-- by its kind
abbrev pub marks_of : CommentKind → Marks
marks_of Line = record { opening = ascii "//"; closing = [] }
marks_of Block = record { opening = ascii "/*"; closing = ascii "*/" }
marks_of HtmlOpen = record { opening = ascii "<!--"; closing = [] }
marks_of HtmlClose = record { opening = ascii "-->"; closing = [] }

-- the readings take a comment as a block comment or as a line comment: an HTML-like one acts as a line comment
abbrev pub is_block : CommentKind → Bool
is_block Block = true
is_block Line = false
is_block HtmlOpen = false
is_block HtmlClose = false

abbrev pub is_line : CommentKind → Bool
is_line kind = not (is_block kind)

abbrev pub opening : CommentKind → List ℕ
opening kind = (marks_of kind).opening

abbrev pub closing : CommentKind → List ℕ
closing kind = (marks_of kind).closing

-- the text begins with one mark, ends with the other, and is no shorter than the two
unfoldable pub enclosed : List ℕ → List ℕ → List ℕ → Bool
enclosed front back c = leb (length front + length back) (length c) && begins front c && begins back (drop (length c - length back) c)

-- the text has the marks of its kind
unfoldable pub marked : CommentKind → List ℕ → Bool
marked kind c = enclosed (opening kind) (closing kind) c

-- so many items, each where the one before ends, and judged by what that one leaves
unfoldable pub chained : {A S : Type 0} → (S → Decoder A) → (A → S) → S → ℕ → Decoder (List A)
chained item leaves s zero = return []
chained item leaves s (suc k) = do
  a ← item s
  λ t. on_ok (a ∷◌) (chained item leaves (leaves a) k t)

-- a comment that starts no earlier than `last`, the end of the one before; refusal 7 at its start and at its end
unfoldable pub comment : List ℕ → ℕ → Decoder Comment
comment source last = do
  kind ← numbered comment_kinds
  start ← position source
  require (leb last start) refusals.comments
  end ← end_from source start
  require (marked kind (slice source (record { start = start; end = end }))) refusals.comments
  return (record { kind = kind; span = record { start = start; end = end } })

-- kind byte, start, end
abbrev pub encode_comment : Comment → List ℕ
encode_comment c = kind_number c.kind ∷ encode_span c.span

abbrev pub end_of : Comment → ℕ
end_of c = c.span.end

abbrev pub comments : List ℕ → ℕ → ℕ → Decoder (List Comment)
comments source = chained (comment source) end_of

-- one group comes before another: by side, then by position
abbrev pub precedes : Side → ℕ → Side → ℕ → Bool
precedes side position side' position' =
    ltb (side_number side) (side_number side') || (eqb (side_number side) (side_number side') && ltb position position')

-- no group comes before the first one
abbrev pub anywhere : Side → ℕ → Bool
anywhere side position = true

-- the order is judged at the position, the reach at the count; `after` says whether a side and a position may follow the last group
unfoldable pub group : List ℕ → ℕ → (Side → ℕ → Bool) → Decoder Group
group source total after = do
  side ← numbered sides
  p ← position source
  require (after side p) refusals.comments
  first ← number
  n ← number
  require (ltb 0 n && leb (first + n) total) refusals.comments
  return (record { side = side; position = p; first = first; count = n })

-- side byte, position, index of its first comment, count
abbrev pub encode_group : Group → List ℕ
encode_group g = side_number g.side ∷ (encode_number g.position ++ (encode_number g.first ++ encode_number g.count))

-- whether a side and a position may follow a group
abbrev pub may_follow : Group → Side → ℕ → Bool
may_follow g = precedes g.side g.position

abbrev pub groups : List ℕ → ℕ → (Side → ℕ → Bool) → ℕ → Decoder (List Group)
groups source total = chained (group source total) may_follow

-- the comment of an index is in the group
abbrev pub holds : ℕ → Group → Bool
holds i g = leb g.first i && ltb i (g.first + g.count)

abbrev pub in_some : List Group → ℕ → Bool
in_some [] i = false
in_some (g ∷ gs) i = holds i g || in_some gs i

-- each of the first n comments is in some group
unfoldable pub covered : List Group → ℕ → Bool
covered gs zero = true
covered gs (suc n) = covered gs n && in_some gs n
