-- What the answers of the code stand for.
use Rattle.std.specs.Prelude.{◌≡◌, false, List, [], ℕ, ◌+◌, ◌-◌, ◌≤◌, Result, Ok, Err, length, drop}
use Rattle.std.specs.Borrow.{Bor}
use Rattle.laws.specs.Decoded.{Decoded, ok, no}
use Rattle.text.specs.Bytes.{part}
use Rattle.wire.specs.declared.refusals.Refusal.{Refusal}
use Rattle.wire.specs.Refusals.{number_of}
use Rattle.wire.specs.code.Views.{ReadResult, read_with, PastWith}
use Rattle.sheet.specs.Limits.{comment_limit, group_limit, depth_limit}
use Rattle.sheet.specs.declared.comments.Comment.{Comment}
use Rattle.sheet.specs.declared.comments.CommentRow.{CommentRow}
use Rattle.sheet.specs.declared.groups.Group.{Group}
use Rattle.sheet.specs.declared.groups.GroupRow.{GroupRow}
use Rattle.sheet.specs.declared.names.MediaType.{MediaType}
use Rattle.sheet.specs.Tree.{Node}
use Rattle.sheet.specs.code.Tables.{comments_in, groups_in}
use Rattle.sheet.specs.Program.{program}
use Rattle.sheet.specs.Nodes.{node}
use Rattle.sheet.specs.Walked.{entries, uncooked}
use Rattle.sheet_nodes.specs.code.Reach.{ReachesIn}
use Rattle.sheet_check.specs.declared.front.Front as declared
use Rattle.sheet_check.specs.declared.tree.Tree.{Tree}
use Rattle.sheet_check.specs.code.Pieces.{Front, tree}

abbrev pub source_as : ReadResult (MediaType × Bor (List ℕ)) → Decoded (MediaType × List ℕ)
source_as = read_with (λ p. (p.0, p.1.now))

-- x stands at a place of s
pub record FoundAt (s : List ℕ) (at : ℕ) (x : List ℕ) : Type 0 where
  pub inside : at + length x ≤ length s
  pub there : part s at (at + length x) ≡ x

-- s ends with x
pub record EndsWith (s x : List ℕ) : Type 0 where
  pub fits : length x ≤ length s
  pub there : drop (length s - length x) s ≡ x

-- x stands in s, right in front of so many bytes, with which s ends
pub record InFront (s x : List ℕ) (left : ℕ) : Type 0 where
  pub fits : length x + left ≤ length s
  pub stands : FoundAt s (length s - left - length x) x

-- the source stands in the sheet s, right in front of the bytes that are left
abbrev pub WithinSource : List ℕ → ReadResult (MediaType × Bor (List ℕ)) → Type 0
WithinSource s = PastWith (λ p next. InFront s p.1.now (length next.now))

-- how many comments were read, and these, in rows of a table
abbrev pub comment_rows_as : ReadResult (Bor (List CommentRow)) → Decoded (ℕ × List Comment)
comment_rows_as = read_with (λ rows. (length rows.now, comments_in rows.now))

abbrev pub group_rows_as : ReadResult (Bor (List GroupRow)) → Decoded (List Group)
group_rows_as = read_with (λ rows. groups_in rows.now)

-- no more rows than a limit
abbrev pub WithinLimit : {R : Type 0} → ℕ → ReadResult (Bor (List R)) → Type 0
WithinLimit limit = PastWith (λ rows next. length rows.now ≤ limit)

-- what the front that was read stands for
abbrev pub front_of : declared.Front → Front
front_of t =
    record {
      media = t.media;
      source = t.source.now;
      comments = comments_in t.comments.now;
      groups = groups_in t.groups.now;
    }

abbrev pub front_as : ReadResult declared.Front → Decoded Front
front_as = read_with front_of

-- the source stands in the sheet s, and the rows are within their limits
pub record FrontIn (s : List ℕ) (t : declared.Front) : Type 0 where
  pub place : FoundAt s t.source_start t.source.now
  pub few : (length t.comments.now ≤ comment_limit) × (length t.groups.now ≤ group_limit)

abbrev pub WithinFront : List ℕ → ReadResult declared.Front → Type 0
WithinFront s = PastWith (λ t next. FrontIn s t)

-- a program, with a root behind it that ends the sheet, in which no call meets refusal 9
pub record Stands (source s : List ℕ) (t : Tree) : Type 0 where
  pub root : Node
  pub before : program source s ≡ ok t.program t.root.now
  pub stands : node source depth_limit t.root.now ≡ ok root []
  pub cooked : uncooked root ≡ false
  pub gives : entries root ≡ t.entries
  pub reaches : ReachesIn t.reach root

abbrev pub TreeFound : List ℕ → List ℕ → Result Tree Refusal → Type 0
TreeFound source s (Ok t) = Stands source s t
TreeFound source s (Err r) = tree source s ≡ no (number_of r)
