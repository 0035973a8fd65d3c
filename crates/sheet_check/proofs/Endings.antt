-- What is left behind the front and the program of a sheet is what the sheet ends with.
use Rattle.laws.proofs.Prelude.{◌≡◌, List, ℕ, ◌+◌, ◌-◌, arith, length, length-append, drop-append_seam}
use Rattle.laws.specs.{Decoded.ok, code.Among.EndOf}
use Rattle.laws.proofs.{Among.end_further, Found.Leaves, Kept.test}
use Rattle.wire.proofs.{Kept.seven, Kept.numbered_kept, Kept.text_kept, Kept.count_kept, Found.fields_leave}
use Rattle.text.specs.declared.utf8.Encoding.TheVariants.{Utf8}
use Rattle.sheet.specs.{Names.media_types, Limits.source_limit, Limits.comment_limit, Limits.group_limit, Comments.anywhere, Comments.covered}
use Rattle.sheet.specs.Program.{Program, program}
use Rattle.sheet.proofs.Kept.{chained_kept, comment_kept, group_kept, program_kept}
use Rattle.sheet_check.specs.{code.Pieces.Front, code.Pieces.source_fields, code.Pieces.comment_fields, code.Pieces.group_fields, code.Pieces.front}
use Rattle.sheet_check.specs.code.Views.{EndsWith}

module _ where
  open fields_leave.kept use {ends, then}

  front_leaves : Leaves front
  unfolding front source_fields comment_fields group_fields
  front_leaves =
      let h = fields_leave in
      then (then (numbered_kept h media_types) (λ media. then (text_kept h Utf8 source_limit) (λ source. ends _))) (λ x.
      then (then (count_kept h comment_limit) (λ n. then (chained_kept h _ (comment_kept h x.1) 0 n) (λ cs. ends _))) (λ c.
      then (then (count_kept h group_limit) (λ m. then (chained_kept h _ (group_kept h x.1 c.0) anywhere m) (λ gs.
      test fields_leave.kept (covered gs c.0) seven (ends _)))) (λ gs. ends _)))

ends_with : (s t : List ℕ) → EndOf t s → EndsWith s t
ends_with s t e =
    let size : length s ≡ length e.front + length t = rw e.among (length-append e.front t) in
    let start : length s - length t ≡ length e.front = omega arith in
    record { fits = omega arith; there = rw (start, e.among, drop-append_seam) }

-- the sheet ends with what is left behind its front and its program
pub root_ends : (s u source : List ℕ) {f : Front} {p : Program} {t : List ℕ} → front s ≡ ok f u → program source u ≡ ok p t → EndsWith s t
root_ends s u source {t = t} e h = ends_with s t (end_further (front_leaves.left s e) ((program_kept fields_leave source).left u h))
