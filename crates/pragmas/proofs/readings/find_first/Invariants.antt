use Rattle.laws.proofs.Prelude.{◌≡◌}
use Rattle.pragmas.specs.{Readings.first_of, code.Views.taken_by}
use Rattle.pragmas.proofs.readings.find_first.Given as goal

abbrev pub invariant-loop-c : goal.invariant-loop-c
invariant-loop-c l =
    (goal.iterator-loop-c).can_next l.c-iterator × (goal.iterator-loop-c).is_finite l.c-iterator
    × (first_of (taken_by l.rule l.comments.source) l.comments.comments ≡ first_of (λ c. taken_by l.rule c.source c.comment) l.c-iterator)
