use Rattle.laws.proofs.Prelude.{◌∙◌, [], ◌∷◌, append_assoc, arith}
use Rattle.analysis.{specs.Mode.mode_number, proofs.Modes.number_small}
use Rattle.report.specs.{ModuleInfo.path, ModuleInfo.types, Encode.encode_specifier, Encode.encode_reference}
use Rattle.report_reader.proofs.FromBytes.{byte_read}
use Rattle.citation.proofs.cite.ReferenceItem.cite.Goals as goal

pub returns-in-Path-clause-answer : goal.returns-in-Path-clause-answer
unfolding encode_reference
returns-in-Path-clause-answer c =
    let byte = byte_read c.read_number-kind.ensures.read in
    elim [
      | path s ↦ λ v t e. c.cite_specifier-next.ensures.answer s v t (byte 0 (omega arith) _ e).1
      | types s mode ↦ λ v t e. let h = rw (byte 1 (omega arith) _ e).0 at c.in-Path.ensures in cc
    ]

pub returns-in-Types-clause-answer : goal.returns-in-Types-clause-answer
unfolding encode_reference
returns-in-Types-clause-answer c =
    let byte = byte_read c.read_number-kind.ensures.read in
    elim [
      | path s ↦ λ v t e. let h = rw (byte 0 (omega arith) _ e).0 at c.in-Types.ensures in cc
      | types s mode ↦ λ v t e.
          let (p, e) = c.cite_specifier-next.ensures.answer s v _
          ((byte 1 (omega arith) _ e).1 ∙ append_assoc (encode_specifier s) (mode_number mode ∷ []) t) in
          (p, (byte_read c.read_number.ensures.read (mode_number mode) (omega (arith, number_small mode)) t e).1)
    ]
