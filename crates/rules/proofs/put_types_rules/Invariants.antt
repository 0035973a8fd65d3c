use Rattle.laws.proofs.Prelude.{◌≡◌, drop}
use Rattle.report.specs.Buffer.{written_as, more}
use Rattle.rules.specs.code.{Pieces.types_bytes, Rows.starts_in}
use Rattle.rules.proofs.put_types_rules.Given as goal

abbrev pub invariant-loop-start : goal.invariant-loop-start
invariant-loop-start l =
    more (written_as l.fn.w) (types_bytes l.comments (starts_in l.rows))
    ≡ more (written_as l.w) (types_bytes l.comments (starts_in (drop l.start-index l.rows)))
