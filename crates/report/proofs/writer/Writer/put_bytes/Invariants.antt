use Rattle.laws.proofs.Prelude.{◌≡◌, drop}
use Rattle.report.specs.Buffer.{written_as, more}
use Rattle.report.proofs.writer.Writer.put_bytes.Given as goal

abbrev pub invariant-loop-b : goal.invariant-loop-b
invariant-loop-b l = more (written_as l.fn.self) l.s ≡ more (written_as l.self) (drop l.b-index l.s)
