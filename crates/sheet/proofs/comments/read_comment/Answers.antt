use Rattle.laws.proofs.Prelude.{told}
use Rattle.sheet.proofs.{CommentCodecs.end_codec}
use Rattle.sheet.proofs.comments.read_comment.Goals as goal

pub slice_bounds-is_marked-count : goal.slice_bounds-is_marked-count
slice_bounds-is_marked-count c = ((end_codec _ _).sound _ _ _ (told c.read_end.ensures c.in_ok-end.was)).1.1

pub slice_bounds-is_marked-start : goal.slice_bounds-is_marked-start
slice_bounds-is_marked-start c = ((end_codec _ _).sound _ _ _ (told c.read_end.ensures c.in_ok-end.was)).1.1

pub slice_bounds-is_marked-end : goal.slice_bounds-is_marked-end
slice_bounds-is_marked-end c =
    ((end_codec _ _).sound _ _ _ (told c.read_end.ensures c.in_ok-end.was)).1.0.boundary.0
