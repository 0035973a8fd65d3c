-- Each value of the enums of a sheet has its own number.
use Rattle.laws.proofs.Prelude.{refl}
use Rattle.wire.proofs.Numbered.{Numbers, numbers}
use Rattle.sheet.specs.declared.names.MediaType.TheVariants.{JavaScript, Jsx, Mjs, Cjs, TypeScript, Mts, Cts, Dts, Dmts, Dcts, Tsx}
use Rattle.sheet.specs.declared.names.CommentKind.TheVariants.{Line, Block, HtmlOpen, HtmlClose}
use Rattle.sheet.specs.declared.names.Side.TheVariants.{Leading, Trailing}
use Rattle.sheet.specs.declared.names.ImportPhase.TheVariants.{Evaluation, Source, Defer}
use Rattle.sheet.specs.Names.{media_number, media_types, kind_number, comment_kinds, side_number, sides, phase_number, import_phases}

pub media_numbers : Numbers media_number media_types
media_numbers =
    numbers media_number media_types
    (elim [
      | JavaScript ↦ refl
      | Jsx ↦ refl
      | Mjs ↦ refl
      | Cjs ↦ refl
      | TypeScript ↦ refl
      | Mts ↦ refl
      | Cts ↦ refl
      | Dts ↦ refl
      | Dmts ↦ refl
      | Dcts ↦ refl
      | Tsx ↦ refl
    ])
    refl

pub kind_numbers : Numbers kind_number comment_kinds
kind_numbers = numbers kind_number comment_kinds (elim [ Line ↦ refl | Block ↦ refl | HtmlOpen ↦ refl | HtmlClose ↦ refl ]) refl

pub side_numbers : Numbers side_number sides
side_numbers = numbers side_number sides (elim [ Leading ↦ refl | Trailing ↦ refl ]) refl

pub phase_numbers : Numbers phase_number import_phases
phase_numbers = numbers phase_number import_phases (elim [ Evaluation ↦ refl | Source ↦ refl | Defer ↦ refl ]) refl
