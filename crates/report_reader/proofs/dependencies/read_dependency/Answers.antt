use Rattle.laws.proofs.Prelude.{refl, sym, append_assoc}
use Rattle.report.specs.declared.names.DependencyKind.TheVariants.{Static, Dynamic}
use Rattle.report.specs.ModuleInfo.{static, dynamic}
use Rattle.report.specs.Encode.{encode_specifier, encode_static, encode_dynamic, encode_dependency}
use Rattle.laws.proofs.Among.{end_further, end_behind, part_front}
use Rattle.report_reader.proofs.FromBytes.{byte_read}
use Rattle.report_reader.proofs.KindsTold.{small, told, apart, static_told}
use Rattle.report_reader.proofs.dependencies.read_dependency.Goals as goal

pub returns-in-Static-clause-part : goal.returns-in-Static-clause-part
returns-in-Static-clause-part c =
    part_front _ _ (end_further (end_further c.read_number-kind.ensures.rest c.skip_optional_in-next.ensures.rest) c.read_text.ensures.rest)

pub returns-in-Static-clause-answer : goal.returns-in-Static-clause-answer
unfolding encode_dependency encode_static encode_dynamic encode_specifier
returns-in-Static-clause-answer c =
    let number = c.read_number-kind in
    let kind = c.in-Static.ensures in
    let byte = byte_read number.ensures.read in
    elim [
      | static d ↦ λ v t e.
          let (is, e) = byte _ (small (Static d.kind)) _ e in
          let types = simp append_assoc at e in
          let (x, e) = c.read_text.ensures.answer d.specifier.text v.specifier.text _
          (c.skip_optional_in-next.ensures.answer d.types_specifier v.types_specifier _ types) in
          let (_, e) = c.read_range.ensures.answer d.specifier.range v.specifier.range _ e in
          let (_, e) = c.read_flag.ensures.answer d.side_effect tt _ e in
          let same = static_told (told kind (Static d.kind) is) in
          (rw (same, x), c.skip_attributes.ensures.answer d.import_attributes v.import_attributes t e)
      | dynamic d ↦ λ v t e.
          absurd (apart (told kind (Dynamic d.kind) (byte _ (small (Dynamic d.kind)) _ e).0))
    ]

pub returns-in-Static-clause-rest : goal.returns-in-Static-clause-rest
returns-in-Static-clause-rest c =
    let next = end_further c.read_number-kind.ensures.rest c.skip_optional_in-next.ensures.rest in
    let range = end_further (end_behind _ _ c.read_text.ensures.rest) c.read_range.ensures.rest in
    let flag = end_further c.read_flag.ensures.rest c.skip_attributes.ensures.rest in
    end_further next (end_further range flag)

pub returns-in-Dynamic-clause-answer : goal.returns-in-Dynamic-clause-answer
unfolding encode_dependency encode_static encode_dynamic
returns-in-Dynamic-clause-answer c =
    let number = c.read_number-kind in
    let kind = c.in-Dynamic.ensures in
    let byte = byte_read number.ensures.read in
    elim [
      | static d ↦ λ v t e.
          absurd (apart (sym (told kind (Static d.kind) (byte _ (small (Static d.kind)) _ e).0)))
      | dynamic d ↦ λ v t e.
          let types = simp append_assoc at (byte _ (small (Dynamic d.kind)) _ e).1 in
          let e = c.skip_argument.ensures.answer d.argument v.argument _
          (c.skip_optional_in-next.ensures.answer d.types_specifier v.types_specifier _ types) in
          let (_, e) = c.read_range-in-Dynamic.ensures.answer d.argument_range v.argument_range _ e in
          (refl, c.skip_attributes-in-Dynamic.ensures.answer d.import_attributes v.import_attributes t e)
    ]

pub returns-in-Dynamic-clause-rest : goal.returns-in-Dynamic-clause-rest
returns-in-Dynamic-clause-rest c =
    let next = end_further c.read_number-kind.ensures.rest c.skip_optional_in-next.ensures.rest in
    let range = end_further c.skip_argument.ensures.rest c.read_range-in-Dynamic.ensures.rest in
    end_further next (end_further range c.skip_attributes-in-Dynamic.ensures.rest)
