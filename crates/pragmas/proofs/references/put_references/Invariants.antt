use Rattle.laws.proofs.Prelude.{◌≡◌, flat_map}
use Rattle.report.specs.{Encode.encode_reference, Buffer.written_as, Buffer.more}
use Rattle.pragmas.specs.{Readings.all_of, Pragmas.reference}
use Rattle.pragmas.proofs.references.put_references.Given as goal

abbrev pub invariant-loop-c : goal.invariant-loop-c
invariant-loop-c l =
    (goal.iterator-loop-c).can_next l.c-iterator × (goal.iterator-loop-c).is_finite l.c-iterator
    × (more (written_as l.fn.w) (flat_map encode_reference (all_of (reference l.comments.source) l.comments.comments))
    ≡ more (written_as l.w) (flat_map encode_reference (all_of (λ c. reference c.source c.comment) l.c-iterator)))
