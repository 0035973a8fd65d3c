use Rattle.laws.proofs.Prelude.{◌≡◌, ◌+◌, ◌-◌, ◌≤◌, length, drop}
use Rattle.text.specs.Lossy.{lossy, replaced}
use Rattle.report.specs.Buffer.{written_as, more}
use Rattle.report.proofs.writer.Writer.put_lossy.Given as goal

abbrev pub invariant-loop-i : goal.invariant-loop-i
invariant-loop-i l =
    (more (written_as l.fn.self) (lossy l.s) ≡ more (written_as l.self) (lossy (drop l.i l.s)))
    × (l.count + replaced (drop l.i l.s) ≡ replaced l.s)
    × (l.count ≤ l.i)

abbrev pub decreases-loop-i : goal.decreases-loop-i
decreases-loop-i l = length l.s - l.i
