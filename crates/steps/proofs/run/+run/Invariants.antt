use Rattle.laws.proofs.Prelude.{◌+◌, ◌-◌, ◌*◌, ◌≤◌, length}
use Rattle.text.specs.declared.class.Class.{Class}
use Rattle.steps.proofs.Running.{Goes, Shorter, Longer}
use Rattle.steps.proofs.run.+run.Given as goal

-- how many numbers are left; a run comes before the steps behind it
abbrev pub decreases-match_from : goal.decreases-match_from
decreases-match_from l = 2 * length l.steps.now

abbrev pub decreases-match_longest : goal.decreases-match_longest
decreases-match_longest l = 2 * length l.steps.now + 1

abbrev pub decreases-match_shortest : goal.decreases-match_shortest
decreases-match_shortest l = 2 * length l.steps.now + 1

abbrev pub invariant-match_from-loop-step : goal.invariant-match_from-loop-step
invariant-match_from-loop-step l =
    (l.here.at ≤ length l.body) × (length l.rest ≤ length l.steps) × Goes l.body l.steps l.initial.here l.rest l.here

abbrev pub decreases-match_from-loop-step : goal.decreases-match_from-loop-step
decreases-match_from-loop-step l = length l.rest

-- the class is not at hand in the loop: what is left to be tried is so for each class of which the end at first is a run's end
abbrev pub invariant-match_longest-loop-from : goal.invariant-match_longest-loop-from
invariant-match_longest-loop-from l =
    (l.from.at ≤ l.end) × (l.end ≤ length l.body)
    × ((c : Class) → Longer c l.steps l.body l.from l.initial.end → Longer c l.steps l.body l.from l.end)

abbrev pub decreases-match_longest-loop-from : goal.decreases-match_longest-loop-from
decreases-match_longest-loop-from l = l.end

abbrev pub invariant-match_shortest-loop-class : goal.invariant-match_shortest-loop-class
invariant-match_shortest-loop-class l = (l.end ≤ length l.body) × Shorter l.class l.steps l.body l.fn.from l.end

abbrev pub decreases-match_shortest-loop-class : goal.decreases-match_shortest-loop-class
decreases-match_shortest-loop-class l = length l.body - l.end
