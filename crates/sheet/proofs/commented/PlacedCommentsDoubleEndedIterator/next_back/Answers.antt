use Rattle.laws.proofs.Prelude.{◌≡◌, ◌∙◌, ap, List, [], ◌∷◌, ◌++◌, ℕ}
use Rattle.std.specs.Prelude.{Some, All}
use Rattle.std.proofs.lemmas.List.{map-append}
use Rattle.std.proofs.lemmas.List.Elements.{All-pop}
use Rattle.sheet.specs.declared.comments.CommentRow.{CommentRow}
use Rattle.sheet.specs.Fit.{Placed}
use Rattle.sheet.specs.code.Tables.{comment_in, comments_in}
use Rattle.sheet.proofs.commented.PlacedCommentsDoubleEndedIterator.next_back.Goals as goal

-- the last and the others are placed
parted : (source : List ℕ) (rows rest : List CommentRow) (row : CommentRow) → rows ≡ rest ++ (row ∷ []) → All (Placed source) (comments_in rows)
    → All (Placed source) (comments_in rest) × Placed source (comment_in row)
parted source rows rest row e =
    All-pop (Placed source) (comments_in rows) (comments_in rest) (Some (comment_in row)) (ap comments_in e ∙ map-append comment_in rest (row ∷ []))

pub new-requires : goal.new-requires
new-requires c = rw c.from.ensures (parted _ _ _ _ c.in_ok-row.ensures.cases.0 c.self.invariant).1

pub invariant_of-self : goal.invariant_of-self
invariant_of-self c = (parted c.self.inside.comments.now.source _ _ _ c.in_ok-row.ensures.cases.0 c.self.invariant).0
