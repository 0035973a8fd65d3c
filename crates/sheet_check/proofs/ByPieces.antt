-- `accept` from the pieces of a sheet.
use Rattle.laws.proofs.Prelude.{◌≡◌, List, ℕ}
use Rattle.laws.specs.Decoded.{and_then, Decoder, ◌>>=◌, return}
use Rattle.laws.proofs.Decoding.{then_then}
use Rattle.sheet.specs.{Program.Program, Tree.Node}
use Rattle.sheet.specs.Sheet.{Sheet, sheet, sized, decode_sheet, accept}
use Rattle.sheet_check.specs.code.Pieces.{source_fields, comment_fields, group_fields, Front, front, tree}

-- the sheet of these pieces
abbrev pub whole : Front → Program × Node → Sheet
whole f (p, root) = record { media = f.media; source = f.source; comments = f.comments; groups = f.groups; program = p; root = root }

-- what stands in front, and the tree behind it
abbrev with_tree : Front → Decoder Sheet
with_tree f = do
  x ← tree f.source
  return (whole f x)

pub accept_by_pieces : (s : List ℕ) → accept s ≡ and_then (sized s) (λ u t. and_then (front t) with_tree)
unfolding accept decode_sheet sheet front source_fields comment_fields group_fields tree
accept_by_pieces s = simp then_then
