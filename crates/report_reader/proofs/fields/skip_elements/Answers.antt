use Rattle.laws.proofs.Prelude.{arith}
use Rattle.report_reader.proofs.Lists.{skip_none, skip_next}
use Rattle.report_reader.proofs.fields.skip_elements.Goals as goal

pub loop-preserved : goal.loop-preserved
loop-preserved g c = λ t h. c.loop.invariant t (skip_next _ _ (omega arith) c.skip-next.ensures h)

pub returns : goal.returns
returns g c = c.loop.invariant _ (skip_none _ _ (omega arith))
