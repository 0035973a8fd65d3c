use Rattle.laws.proofs.Prelude.{◌≡◌, flat_map, length}
use Rattle.laws.specs.Codec.{All}
use Rattle.report.{specs.Buffer.written_as, specs.Buffer.more, specs.Origin.encode_origin}
use Rattle.jsdoc_list.specs.Origins.{origins_of}
use Rattle.jsdoc_list.proofs.notes.put_jsdoc_origins.Given as goal

abbrev pub invariant-loop-c : goal.invariant-loop-c
invariant-loop-c l =
    (goal.iterator-loop-c).can_next l.c-iterator × (goal.iterator-loop-c).is_finite l.c-iterator
    × All (λ c. c.source ≡ l.comments.source) l.c-iterator
    × (length l.origins ≡ length l.fn.origins)
    × (more (written_as l.fn.w) (flat_map encode_origin (flat_map (origins_of l.comments.source) l.comments.comments))
    ≡ more (written_as l.w) (flat_map encode_origin (flat_map (λ c. origins_of c.source c.comment) l.c-iterator)))
