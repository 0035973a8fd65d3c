use Rattle.laws.proofs.Prelude.{◌∙◌, [], ◌∷◌, append_assoc, arith}
use Rattle.analysis.{specs.Mode.mode_number, proofs.Modes.number_small}
use Rattle.report.specs.Encode.{encode_specifier, encode_jsdoc}
use Rattle.report_reader.proofs.FromBytes.{byte_read}
use Rattle.citation.proofs.cite.JsDocItem.cite.Goals as goal

pub returns-clause-answer : goal.returns-clause-answer
unfolding encode_jsdoc
returns-clause-answer c = λ i v t e.
    let (_, e) = byte_read c.read_number.ensures.read 1 (omega arith) _ e in
    let (p, e) = c.cite_specifier-next.ensures.answer i.specifier v _
    (e ∙ append_assoc (encode_specifier i.specifier) (mode_number i.mode ∷ []) t) in
    (p, (byte_read c.read_number-2.ensures.read (mode_number i.mode) (omega (arith, number_small i.mode)) t e).1)
