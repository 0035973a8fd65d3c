use Rattle.laws.proofs.Prelude.{refl, flat_map}
use Rattle.report.{specs.Encode.encode_specifier, proofs.Buffers.wrote_none}
use Rattle.report_reader.proofs.FromBytes.{none_there, some_there}
use Rattle.citation.proofs.cite.Citing.cite_optional.Goals as goal

pub returns-then-not-flag-clause-answer : goal.returns-then-not-flag-clause-answer
unfolding flat_map
returns-then-not-flag-clause-answer c = λ o v t e.
    let (p, e) = none_there c.read_flag-flag.ensures.answer encode_specifier c.if-not-flag.true o t e in
    rw p (record { written = wrote_none c.args.w.now; counted = refl }, e)

pub returns-clause-answer : goal.returns-clause-answer
returns-clause-answer c = λ o v t e.
    let (x, p, e) = some_there c.read_flag-flag.ensures.answer encode_specifier c.if-not-flag.false o t e in
    rw p (c.cite_specifier.ensures.answer x (rw p at v) t e)
