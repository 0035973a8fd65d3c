use Rattle.laws.proofs.Prelude.{◌≡◌}
use Rattle.std.specs.Prelude.{reverse}
use Rattle.pragmas.specs.{Readings.first_of, Readings.last_of, code.Views.taken_by}
use Rattle.pragmas.proofs.readings.find_last.Given as goal

abbrev pub invariant-loop-c : goal.invariant-loop-c
invariant-loop-c l =
    (goal.iterator-loop-c).can_next l.c-iterator × (goal.iterator-loop-c).is_finite l.c-iterator
    × (last_of (taken_by l.rule l.comments.source) l.comments.comments ≡ first_of (λ c. taken_by l.rule c.source c.comment) (reverse l.c-iterator.iter))
