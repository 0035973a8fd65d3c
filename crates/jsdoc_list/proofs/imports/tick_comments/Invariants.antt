use Rattle.laws.proofs.Prelude.{◌≡◌, length}
use Rattle.std.specs.Prelude.{fold}
use Rattle.laws.specs.Codec.{All}
use Rattle.jsdoc_list.specs.Imports.{ticked_by, ticks_of}
use Rattle.jsdoc_list.proofs.imports.tick_comments.Given as goal

abbrev pub invariant-loop-c : goal.invariant-loop-c
invariant-loop-c l =
    (goal.iterator-loop-c).can_next l.c-iterator × (goal.iterator-loop-c).is_finite l.c-iterator
    × All (λ c. c.source ≡ l.comments.source) l.c-iterator
    × (length l.ticks ≡ length l.comments.source)
    × (fold (λ t c. ticked_by c.source c.comment t) l.ticks l.c-iterator ≡ ticks_of l.comments.source l.comments.comments)
