-- What the functions answer.
use Rattle.std.specs.Prelude.{◌≡◌, cond, List, [], ◌∷◌, ℕ, ◌+◌, ◌≤◌, ◌<◌, length, drop, Option, Some, None, Result, Ok, Err}
use Rattle.text.specs.declared.utf8.Encoding.TheVariants.{Utf8}
use Rattle.text.specs.Utf8.{char_length}
use Rattle.analysis.specs.declared.Capture.{Capture}
use Rattle.analysis.specs.Row.{Row, all, first, find}
use Rattle.analysis.specs.Prefers.{Finds}
use Rattle.steps.specs.declared.run.Reached.{Reached}
use Rattle.steps.specs.declared.table.Ill.{Ill}
use Rattle.steps.specs.declared.table.Ill.TheVariants.{TooLong, UnknownStep, UnknownClass, UnknownMarks, CutOff}
use Rattle.steps.specs.Written.{written}
use Rattle.steps.specs.Table.{Decoded, row, ill, row_in, decode}

-- whether numbers stand for a row
abbrev pub verdict_of : Decoded → Result (Unit {0}) Ill
verdict_of (row r) = Ok tt
verdict_of (ill x) = Err x

-- the matches behind a plain step that was passed
abbrev pub on_passed : Option Reached → (ℕ → Capture → List Capture) → List Capture
on_passed (Some m) f = f m.at m.captured
on_passed None f = []

-- whatever row is behind it, a step matches as it is passed
abbrev pub Passes : (Row → Row) → List ℕ → Reached → Option Reached → Type 0
Passes f s m r = (q : Row) → all (f q) s m.at m.captured ≡ on_passed r (λ e l. all q s e l)

-- the place that was reached, if any, is at most n
abbrev pub PassedBy : Option Reached → ℕ → Type 0
PassedBy (Some m) n = m.at ≤ n
PassedBy None n = Unit {0}

-- a character that ends at a place begins at the other
abbrev pub Precedes : List ℕ → ℕ → ℕ → Type 0
Precedes s end r = (d : ℕ) → d < end → d + char_length Utf8 (drop d s) ≡ end → r ≡ d

-- the preferred match, from how far it has come on, of the row that the numbers stand for, behind a step
pub record FirstOf (step : Row → Row) (t s : List ℕ) (m : Reached) (r : Option Capture) : Type 0 where
  pub is : (q : Row) → row_in t ≡ row q → r ≡ first (all (step q) s m.at m.captured)

-- the preferred match in a body of the row that the numbers stand for
pub record FindsRow (t s : List ℕ) (r : Option Capture) : Type 0 where
  pub is : (q : Row) → row_in t ≡ row q → r ≡ find q s

-- and of a table's
pub record FindsTable (t s : List ℕ) (r : Option Capture) : Type 0 where
  pub is : (q : Row) → decode t ≡ row q → r ≡ find q s

-- what a row finds, or what is wrong with its table
abbrev pub Answer : Type 0
Answer = Result (Option Capture) Ill

-- a table runs as it should: of a row what is preferred is found, and nothing exactly where nothing matches; any other table is refused by name
abbrev pub Runs : Decoded → List ℕ → Answer → Type 0
Runs (row q) s r = (found : Option Capture) × (r ≡ Ok found) × Finds q s found
Runs (ill x) s r = r ≡ Err x

-- so does any row, written as a table
pub record Stepped (t s : List ℕ) (r : Answer) : Type 0 where
  pub tables : Runs (decode t) s r
  pub rows : (q : Row) → t ≡ written q → length t ≤ 255 → Runs (row q) s r

-- what is wrong, by a number
abbrev pub number_of : Ill → ℕ
number_of TooLong = 1
number_of UnknownStep = 2
number_of UnknownClass = 3
number_of UnknownMarks = 4
number_of CutOff = 5

-- an answer as four numbers
abbrev pub words_of : Answer → List ℕ
words_of (Ok (Some k)) = 1 ∷ cond k.quoted 1 0 ∷ k.from ∷ k.to ∷ []
words_of (Ok None) = 0 ∷ 0 ∷ 0 ∷ 0 ∷ []
words_of (Err x) = 2 ∷ number_of x ∷ 0 ∷ 0 ∷ []
