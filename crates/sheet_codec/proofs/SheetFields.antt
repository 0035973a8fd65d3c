-- A refusal 2 to 7 is met at a field of some sheet.
use Rattle.laws.proofs.Prelude.{refl}
use Rattle.text.specs.declared.utf8.Encoding.TheVariants.{Utf8}
use Rattle.sheet.{specs.Limits.depth_limit, specs.Sheet.sheet, proofs.EnumNumbers.media_numbers}
use Rattle.sheet_codec.specs.Field.{media, source_length, comments, groups}
use Rattle.sheet_codec.specs.FieldsOf.{fields_of}
use Rattle.sheet_codec.proofs.Fields.{FieldsOf, Any, then, last}
use Rattle.sheet_codec.proofs.{Leaves.numbered_field, Leaves.every_comment_lem, Numbers.count_field, TreeFields.node_fields_lem}
use Rattle.sheet_codec.proofs.Sequences.{text_fields_lem, comments_fields, groups_fields, program_fields_lem}

pub sheet_fields : FieldsOf sheet Any fields_of
unfolding sheet fields_of
sheet_fields =
    then (numbered_field media media_numbers refl) (λ media a. then (text_fields_lem source_length Utf8) (λ source b.
    then (count_field comments) (λ n c. then (comments_fields source n) (λ cs long.
    then (count_field groups) (λ m d. then (groups_fields source n m) (λ gs long'.
    then (every_comment_lem gs n) (λ u e. then (program_fields_lem source) (λ p f.
    last (λ root. record { media = media; source = source; comments = cs; groups = gs; program = p; root = root }) (node_fields_lem source depth_limit)
    (λ root g.
    (tt, rw (long, long')))))))))))
