-- The rows beside a report: where the node of each dependency starts, and how many characters were replaced in its text.
use Rattle.std.specs.Prelude.{◌≡◌, cond, List, [], ◌∷◌, ◌++◌, map, ℕ, zero, suc, ◌-◌, ◌/◌, eqb, length, take}
use Rattle.sheet.specs.Walk.{visits}
use Rattle.sheet.specs.Sheet.{Sheet}
use Rattle.sheet.specs.Judge.{Judged, empty, sheet, refusal, judge}
use Rattle.sheet_codec.specs.SheetOf.{SheetOf}
use Rattle.report.specs.Answer.{zeros}
use Rattle.pragmas.specs.Pragmas.{types_at}
use Rattle.dep_entries.specs.Entries.{Noted}
use Rattle.dep.specs.Collect.{numbers_of, collect_noted}
use Rattle.dep.specs.InTurn.{InTurn}
use Rattle.dep.specs.Replaced.{NotedOf}
use Rattle.module_info.specs.Information.{module_info}

-- the dependencies of a sheet, each with where its node starts and the number of surrogates replaced in its text
abbrev pub noted : Sheet → List Noted
noted t = collect_noted t.source (types_at t) t.root

-- those of what is no sheet: none
abbrev pub noted_in : Judged → List Noted
noted_in empty = []
noted_in (sheet t) = noted t
noted_in (refusal r) = []

-- numbers behind how many they are, and zeros where room is left
abbrev pub counted : ℕ → List ℕ → List ℕ
counted room numbers = length numbers ∷ (numbers ++ zeros (room - length numbers))

-- lent notes of that size: how many numbers follow, a row of two for each dependency as far as there is room, and zeros
unfoldable pub held : ℕ → List Noted → List ℕ
held zero l = []
held (suc room) l = counted room (numbers_of (take (room / 2) l))

-- the notes behind a call with the answer's number: zeros on a refusal
abbrev pub notes_with : ℕ → List Noted → ℕ → List ℕ
notes_with size l number = held size (cond (eqb number 0) l [])

-- the bytes s of a sheet or none, the size of the lent notes, the answer's number, and what the notes hold then
pub record NotesRight (s : List ℕ) (size number : ℕ) (notes : List ℕ) : Type 0 where
  -- on acceptance a row for each dependency in order, as far as there is room; on a refusal zeros
  pub answer : notes ≡ notes_with size (noted_in (judge s)) number
  -- the rows stand beside the dependencies of the report
  pub beside : (t : Sheet) → SheetOf s t → map (λ e. e.entry) (noted t) ≡ (module_info t).dependencies
  -- and each is that of its visit, where its node starts and the number of its text, in the visits' order
  pub rows : (t : Sheet) → SheetOf s t → InTurn NotedOf (visits t.root) (noted t)
