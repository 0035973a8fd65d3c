-- The code's steps as those of the definitions.
use Rattle.std.specs.Prelude.{ℕ, ◌<◌, length, Result, Ok, Err}
use Rattle.analysis.specs.Row.{Row, start, word, one, longest, shortest, from, to}
use Rattle.steps.specs.declared.table.Ill.{Ill}
use Rattle.steps.specs.declared.table.Plain.{Plain}
use Rattle.steps.specs.declared.table.Plain.TheVariants.{Start, Word, One, From, To}
use Rattle.steps.specs.declared.table.Step.{Step}
use Rattle.steps.specs.declared.table.Step.TheVariants.{Done, Pass, Longest, Shortest, Either}
use Rattle.steps.specs.Table.{Next, nothing, step, fork}

-- a plain step as that of a row
abbrev pub plain_as : Plain → Row → Row
plain_as Start = start
plain_as (Word w) = word w.now
plain_as (One c) = one c
plain_as (From quoted) = from quoted
plain_as To = to

-- the step, if there is one, with what is left behind it
abbrev pub next_as : Result Step Ill → Result Next Ill
next_as (Ok Done) = Ok nothing
next_as (Ok (Pass p next)) = Ok (step (plain_as p) next.now)
next_as (Ok (Longest c next)) = Ok (step (longest c) next.now)
next_as (Ok (Shortest c next)) = Ok (step (shortest c) next.now)
next_as (Ok (Either first second)) = Ok (fork first.now second.now)
next_as (Err x) = Err x

-- what is left behind the step, if there is one, is shorter than n numbers
abbrev pub StepWithin : Result Next Ill → ℕ → Type 0
StepWithin (Ok nothing) n = Unit {0}
StepWithin (Ok (step f t)) n = length t < n
StepWithin (Ok (fork t u)) n = (length t < n) × (length u < n)
StepWithin (Err x) n = Unit {0}
