use Rattle.laws.proofs.Prelude.{sym, ◌∙◌, ◌++◌, append_assoc}
use Rattle.report.specs.declared.names.DependencyKind.TheVariants.{Static, Dynamic}
use Rattle.report.specs.ModuleInfo.{static, dynamic}
use Rattle.report.specs.Encode.{encode_attributes, encode_static, encode_dynamic, encode_dependency}
use Rattle.report_reader.proofs.FromBytes.{byte_read}
use Rattle.report_reader.proofs.KindsTold.{small, told, apart}
use Rattle.citation.proofs.{Printing.both}
use Rattle.citation.proofs.cite.DependencyItem.cite.Goals as goal

pub returns-in-Static-clause-answer : goal.returns-in-Static-clause-answer
unfolding encode_dependency encode_static encode_dynamic
returns-in-Static-clause-answer c =
    let number = c.read_number-kind in
    let kind = c.from in
    let first = c.cite_specifier-next in
    let flag = c.read_flag in
    let byte = byte_read number.ensures.read in
    elim [
      | static d ↦ λ v t e.
          let types = simp append_assoc at (byte _ (small (Static d.kind)) _ e).1 in
          let (p, e) = first.ensures.answer d.specifier v.specifier _
          (c.skip_optional_in-next.ensures.answer d.types_specifier v.types_specifier _ types) in
          let (q, _) = c.cite_optional-more.ensures.answer d.types_specifier v.types_specifier _ types in
          let (_, e) = flag.ensures.answer d.side_effect tt _ e in
          rw (← c.dependency_letter-letter.ensures) (both p q, c.skip_attributes.ensures.answer d.import_attributes v.import_attributes t e)
      | dynamic d ↦ λ v t e.
          absurd (apart (sym c.in-Static.is ∙
          told kind.ensures (Dynamic d.kind) (byte _ (small (Dynamic d.kind)) _ e).0))
    ]

pub returns-in-Dynamic-clause-answer : goal.returns-in-Dynamic-clause-answer
unfolding encode_dependency encode_static encode_dynamic
returns-in-Dynamic-clause-answer c =
    let number = c.read_number-kind in
    let kind = c.from in
    let first = c.cite_argument-next in
    let byte = byte_read number.ensures.read in
    elim [
      | static d ↦ λ v t e.
          absurd (apart (sym (told kind.ensures (Static d.kind) (byte _ (small (Static d.kind)) _ e).0) ∙
          c.in-Dynamic.is))
      | dynamic d ↦ λ v t e.
          let types = simp append_assoc at (byte _ (small (Dynamic d.kind)) _ e).1 in
          let (p, e) = first.ensures.answer (d.argument, d.argument_range) (v.argument, v.argument_range)
          (encode_attributes d.import_attributes ++ t)
          (rw append_assoc (c.skip_optional_in-next.ensures.answer d.types_specifier v.types_specifier _ types)) in
          let (q, _) = c.cite_optional-more-in-Dynamic.ensures.answer d.types_specifier v.types_specifier _ types in
          rw (← c.dependency_letter-letter.ensures) (both p q, c.skip_attributes-in-Dynamic.ensures.answer d.import_attributes v.import_attributes t e)
    ]
