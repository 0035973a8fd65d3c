use Rattle.laws.proofs.Prelude.{arith}
use Rattle.laws.proofs.Among.{end_further}
use Rattle.report_reader.proofs.Lists.{skip_none, skip_next}
use Rattle.report_reader.proofs.fields.skip_elements_in.Goals as goal

pub loop-preserved : goal.loop-preserved
loop-preserved g c =
    let skip = c.skip_in-next.ensures in
    (end_further c.loop.invariant.0 skip.rest, λ t h. c.loop.invariant.1 t (skip_next _ _ (omega arith) skip.answer h))

pub returns-clause-answer : goal.returns-clause-answer
returns-clause-answer g c = c.loop.invariant.1 _ (skip_none _ _ (omega arith))
