use Rattle.laws.proofs.Prelude.{sym, arith}
use Rattle.sheet.{specs.Names.media_number, proofs.EnumNumbers.media_numbers}
use Rattle.sheet_codec.specs.Encode.{encode_sheet}
use Rattle.report_reader.proofs.FromBytes.{byte_read}
use Rattle.cite.proofs.find_source.Goals as goal

pub returns : goal.returns
unfolding encode_sheet
returns c = λ t of.
    let long = of.encodes.within.fields.source.0 in
    let (_, e) = byte_read c.read_number.ensures.read (media_number t.media) (omega (arith, media_numbers.few t.media)) _ (sym of.encodes.bytes) in
    (c.read_text.ensures.answer t.source (omega (arith, long)) _ e).0
