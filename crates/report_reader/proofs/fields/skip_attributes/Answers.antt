use Rattle.laws.proofs.Prelude.{◌≡◌, ap, ◌∙◌, ⊎_elim, arith}
use Rattle.wire.specs.Fields.{value_of}
use Rattle.report.specs.declared.names.AttributesKind.TheVariants.{Known}
use Rattle.report.specs.code.Kinds.{attributes_kinds}
use Rattle.report.specs.ModuleInfo.{none, unknown, known}
use Rattle.report.specs.Encode.{encode_attributes}
use Rattle.report_reader.proofs.{FromBytes.byte_read}
use Rattle.report_reader.proofs.fields.skip_attributes.Goals as goal

pub returns-in-Known-clause-answer : goal.returns-in-Known-clause-answer
unfolding encode_attributes
returns-in-Known-clause-answer c =
    let byte = byte_read c.read_number-kind.ensures.read in
    elim [
      | none ↦ λ v t e. let h = rw (byte 0 (omega arith) t e).0 at c.in-Known.ensures in cc
      | unknown ↦ λ v t e. let h = rw (byte 1 (omega arith) t e).0 at c.in-Known.ensures in cc
      | known l ↦ λ v t e. c.skip_list_in.ensures.answer l v t (byte 2 (omega arith) _ e).1
    ]

pub returns-in-None-clause-answer : goal.returns-in-None-clause-answer
unfolding encode_attributes
returns-in-None-clause-answer c =
    let byte = byte_read c.read_number-kind.ensures.read in
    elim [
      | none ↦ λ v t e. (byte 0 (omega arith) t e).1
      | unknown ↦ λ v t e. (byte 1 (omega arith) t e).1
      | known l ↦ λ v t e.
          let is : c.from.result ≡ Known =
          c.from.ensures ∙ ap (value_of attributes_kinds) (byte 2 (omega arith) _ e).0 in
          ⊎_elim (λ h. cc) (λ h. cc) c.in-None.is
    ]
