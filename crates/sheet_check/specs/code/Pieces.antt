-- The fields of a sheet in pieces, each of which a function reads; proofs/ByPieces has the law that makes `accept` of them.
use Rattle.std.specs.Prelude.{not, List, ℕ}
use Rattle.laws.specs.Decoded.{Decoder, ◌>>=◌, ◌>>◌, return, require}
use Rattle.text.specs.declared.utf8.Encoding.TheVariants.{Utf8}
use Rattle.wire.specs.Refusals as refusals
use Rattle.wire.specs.Fields.{numbered}
use Rattle.wire.specs.Text.{count, text}
use Rattle.sheet.specs.Limits.{source_limit, comment_limit, group_limit, depth_limit}
use Rattle.sheet.specs.declared.comments.Comment.{Comment}
use Rattle.sheet.specs.declared.groups.Group.{Group}
use Rattle.sheet.specs.declared.names.MediaType.{MediaType}
use Rattle.sheet.specs.Names.{media_types}
use Rattle.sheet.specs.Tree.{Node}
use Rattle.sheet.specs.Comments.{comments, anywhere, groups, covered}
use Rattle.sheet.specs.Program.{Program, program}
use Rattle.sheet.specs.Nodes.{node}
use Rattle.sheet.specs.Walked.{uncooked}
use Rattle.sheet.specs.Sheet.{ending}

-- the media byte and the source
unfoldable pub source_fields : Decoder (MediaType × List ℕ)
source_fields = do
  media ← numbered media_types
  source ← text Utf8 source_limit
  return (media, source)

-- how many comments, and the comments
unfoldable pub comment_fields : List ℕ → Decoder (ℕ × List Comment)
comment_fields source = do
  n ← count comment_limit
  cs ← comments source 0 n
  return (n, cs)

-- the groups of n comments, with refusal 7 where one of these is in none
unfoldable pub group_fields : List ℕ → ℕ → Decoder (List Group)
group_fields source n = do
  m ← count group_limit
  gs ← groups source n anywhere m
  require (covered gs n) refusals.comments
  return gs

-- what stands in front of the program
pub record Front : Type 0 where
  pub media : MediaType
  pub source : List ℕ
  pub comments : List Comment
  pub groups : List Group

unfoldable pub front : Decoder Front
front = do
  (media, source) ← source_fields
  (n, cs) ← comment_fields source
  gs ← group_fields source n
  return (record { media = media; source = source; comments = cs; groups = gs })

-- the program and the root, behind which nothing is left, and in which no call meets refusal 9
unfoldable pub tree : List ℕ → Decoder (Program × Node)
tree source = do
  p ← program source
  root ← node source depth_limit
  ending
  require (not (uncooked root)) refusals.uncooked
  return (p, root)
