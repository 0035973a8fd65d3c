-- The sheet: its fields in document 01's order, so that the first refusal in checking order is what the decoder answers.
use Rattle.std.specs.Prelude.{not, List, [], ◌∷◌, ℕ, leb, length}
use Rattle.laws.specs.Decoded.{ok, no, Decoder, ◌>>=◌, ◌>>◌, return, require}
use Rattle.text.specs.declared.utf8.Encoding.TheVariants.{Utf8}
use Rattle.wire.specs.Refusals as refusals
use Rattle.wire.specs.Fields.{numbered}
use Rattle.wire.specs.Text.{count, text}
use Rattle.sheet.specs.Limits.{sheet_limit, source_limit, comment_limit, group_limit, depth_limit}
use Rattle.sheet.specs.declared.names.MediaType.{MediaType}
use Rattle.sheet.specs.Names.{media_types}
use Rattle.sheet.specs.Tree.{Node}
use Rattle.sheet.specs.declared.comments.Comment.{Comment}
use Rattle.sheet.specs.declared.groups.Group.{Group}
use Rattle.sheet.specs.Comments.{comments, anywhere, groups, covered}
use Rattle.sheet.specs.Program.{Program, program}
use Rattle.sheet.specs.Nodes.{node}
use Rattle.sheet.specs.Walked.{uncooked}

-- document 01's sheet: what a parser hands over
pub record Sheet : Type 0 where
  pub media : MediaType
  pub source : List ℕ
  pub comments : List Comment
  pub groups : List Group
  pub program : Program
  pub root : Node

-- the fields, refusals 2 to 7
unfoldable pub sheet : Decoder Sheet
sheet = do
  media ← numbered media_types
  source ← text Utf8 source_limit
  n ← count comment_limit
  cs ← comments source 0 n
  m ← count group_limit
  gs ← groups source n anywhere m
  require (covered gs n) refusals.comments
  p ← program source
  root ← node source depth_limit
  return (record { media = media; source = source; comments = cs; groups = gs; program = p; root = root })

-- refusal 1 of too many bytes
abbrev pub sized : Decoder (Unit {0})
sized s = require (leb (length s) sheet_limit) refusals.sheet_length s

-- refusal 8 where bytes are left
abbrev pub ending : Decoder (Unit {0})
ending [] = ok tt []
ending (b ∷ s) = no refusals.trailing

-- refusal 1 in front of the fields, 8 behind them
unfoldable pub decode_sheet : Decoder Sheet
decode_sheet = do
  sized
  t ← sheet
  ending
  return t

-- a sheet that meets none of refusals 1 to 9, or the first that it meets
unfoldable pub accept : Decoder Sheet
accept = do
  t ← decode_sheet
  require (not (uncooked t.root)) refusals.uncooked
  return t
