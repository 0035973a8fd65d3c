use Rattle.laws.proofs.Prelude.{rules}
use Rattle.report.specs.Buffer.{written_as}
use Rattle.module_info.proofs.Written.{dependencies_written}
use Rattle.module_info.proofs.put_dependencies.Goals as goal

pub returns : goal.returns
returns c =
    let walked = c.analyze_program_dependencies in
    let done = dependencies_written c.parts.ensures c.comments-comments.ensures.comments
    (written_as c.args.w.now) _ walked.new.items c.put_flag.ensures walked.ensures.answer in
    search rules
