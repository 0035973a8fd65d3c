use Rattle.laws.proofs.Prelude.{◌≡◌, ◌-◌}
use Rattle.wire.specs.Number.{encode_groups, encode_number}
use Rattle.report.specs.Buffer.{written_as, more}
use Rattle.report.proofs.writer.Writer.put_number.Given as goal

abbrev pub invariant-loop : goal.invariant-loop
invariant-loop l = more (written_as l.fn.self) (encode_number l.n) ≡ more (written_as l.self) (encode_groups (5 - l.counter) l.rest)
