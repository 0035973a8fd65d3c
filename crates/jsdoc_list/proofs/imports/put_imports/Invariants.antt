use Rattle.laws.proofs.Prelude.{◌≡◌, ◌-◌, length, drop, flat_map}
use Rattle.report.{specs.Encode.encode_jsdoc, specs.Buffer.written_as, specs.Buffer.more}
use Rattle.jsdoc_list.specs.Imports.{imports_from}
use Rattle.jsdoc_list.proofs.imports.put_imports.Given as goal

abbrev pub invariant-loop-q : goal.invariant-loop-q
invariant-loop-q l =
    more (written_as l.fn.w) (flat_map encode_jsdoc (imports_from l.comments.source 0 l.ticks))
    ≡ more (written_as l.w) (flat_map encode_jsdoc (imports_from l.comments.source l.q (drop l.q l.ticks)))

abbrev pub decreases-loop-q : goal.decreases-loop-q
decreases-loop-q l = length l.ticks - l.q
