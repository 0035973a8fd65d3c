use Rattle.laws.proofs.Prelude.{arith}
use Rattle.std.proofs.lemmas.Grind.{common_steps}
use Rattle.report.proofs.Buffers.{wrote_keeps}
use Rattle.dep_entries.specs.code.Written.{items_as}
use Rattle.dep.proofs.{Counted.program_written}
use Rattle.dep.proofs.walk.analyze_program_dependencies.Goals as goal

-- `analyze_program_dependencies`: the number of the dependencies, and their entries.

pub returns : goal.returns
unfolding items_as
returns c =
    let a = c.args in
    let counted = c.put_number.ensures in
    let keeps = wrote_keeps a.items.now.writer.now c.put_number.new.self _ counted in
    record {
      answer = λ n t is as_many far.
          let written = program_written a.comments.now (items_as a.items.now) n as_many counted in
          let walked = c.walk_root.ensures.answer n t is far in
          grind (arith, common_steps);
      left = grind (arith, common_steps);
    }
