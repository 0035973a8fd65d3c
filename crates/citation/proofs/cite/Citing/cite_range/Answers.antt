use Rattle.laws.proofs.Prelude.{refl, append-nil, flat_map}
use Rattle.report.proofs.Buffers.{wrote_keeps}
use Rattle.citation.proofs.cite.Citing.cite_range.Goals as goal

pub returns-clause-answer : goal.returns-clause-answer
unfolding flat_map
returns-clause-answer c = λ r v t e.
    let (p, e) = c.read_range.ensures.answer r v t e in
    (record { written = rw (append-nil, ← p) c.put_line.ensures; counted = refl }, e)

pub returns-clause-left : goal.returns-clause-left
returns-clause-left c = wrote_keeps _ _ _ c.put_line.ensures
