use Rattle.laws.proofs.Prelude.{◌≡◌, drop, flat_map}
use Rattle.report.specs.Buffer.{written_as, more}
use Rattle.citation.specs.Citation.{escaped}
use Rattle.citation.proofs.lines.put_text.Given as goal

abbrev pub invariant-loop-b : goal.invariant-loop-b
invariant-loop-b l =
    more (written_as l.fn.w) (flat_map escaped l.text) ≡ more (written_as l.w) (flat_map escaped (drop l.b-index l.text))
