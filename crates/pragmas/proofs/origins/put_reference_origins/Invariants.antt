use Rattle.laws.proofs.Prelude.{◌≡◌, flat_map}
use Rattle.report.specs.{Origin.encode_origin, Buffer.written_as, Buffer.more}
use Rattle.pragmas.specs.{Readings.all_of, Origins.reference_origin}
use Rattle.pragmas.proofs.origins.put_reference_origins.Given as goal

abbrev pub invariant-loop-c : goal.invariant-loop-c
invariant-loop-c l =
    (goal.iterator-loop-c).can_next l.c-iterator × (goal.iterator-loop-c).is_finite l.c-iterator
    × (more (written_as l.fn.w) (flat_map encode_origin (all_of (reference_origin l.comments.source) l.comments.comments))
    ≡ more (written_as l.w) (flat_map encode_origin (all_of (λ c. reference_origin c.source c.comment) l.c-iterator)))
