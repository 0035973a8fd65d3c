-- The source map by ECMA-426: the second question that a sheet can be asked.
use Rattle.std.specs.Prelude.{◌≡◌, true, ◌↔◌, List, [], ◌∷◌, ℕ, ◌≤◌, length}
use Rattle.std.specs.Prelude.{None, Option, Some, option_map, Result, Ok, Err}
use Rattle.laws.specs.Codec.{IfThere}
use Rattle.text.specs.Bytes.{part}
use Rattle.text.specs.Position.{characters, Counted}
use Rattle.wire.specs.Refusals.{of_sheets, one_of}
use Rattle.wire.specs.declared.refusals.Refusal.{Refusal}
use Rattle.wire.specs.Refusals.{number_of}
use Rattle.sheet.specs.Sheet.{Sheet}
use Rattle.sheet.specs.Judge.{Judged, empty, sheet, refusal, judge}
use Rattle.report.specs.ModuleInfo.{SpecifierWithRange}
use Rattle.report.specs.Answer.{zeros}
use Rattle.pragmas.specs.Pragmas.{end_comments}
use Rattle.pragmas.specs.Present.{ExactlyLast}
use Rattle.pragmas.specs.SourceMap.{standard_map, standard_rule, MapShown}
use Rattle.module_info.specs.declared.source_map.SourceMap.{SourceMap}
use Rattle.module_info.specs.Information.{answer_of}
use Rattle.module_info.specs.Demands.{OfAccepted}

-- an optional specifier, or the sheet's refusal
pub data MapAnswer : Type 0 where
  given : Option SpecifierWithRange → MapAnswer
  refused : ℕ → MapAnswer

-- no bytes have none
abbrev pub map_to : Judged → MapAnswer
map_to empty = given None
map_to (sheet t) = given (standard_map t)
map_to (refusal r) = refused r

unfoldable pub source_map_of : List ℕ → MapAnswer
source_map_of s = map_to (judge s)

-- what the code answers: a source map, if there is one, or a refusal
abbrev pub MapOutcome : Type 0
MapOutcome = Result (Option SourceMap) Refusal

-- what a source map of the bytes s stands for: the text is a part of them
abbrev pub map_in : List ℕ → SourceMap → SpecifierWithRange
map_in s m = record { text = part s m.from m.to; range = record { start = m.start; end = m.end } }

abbrev pub map_of : List ℕ → Option SourceMap → Option SpecifierWithRange
map_of s = option_map (map_in s)

-- and what the answer does
abbrev pub map_as : List ℕ → MapOutcome → MapAnswer
map_as s (Ok o) = given (map_of s o)
map_as s (Err r) = refused (number_of r)

abbrev pub TextInside : List ℕ → Option SourceMap → Type 0
TextInside s (Some m) = (m.from ≤ m.to) × (m.to ≤ length s)
TextInside s None = Unit {0}

abbrev pub AnswerInside : List ℕ → MapOutcome → Type 0
AnswerInside s (Ok o) = TextInside s o
AnswerInside s (Err r) = Unit {0}

-- the optional specifier of a sheet t
pub record MapRight (t : Sheet) (o : Option SpecifierWithRange) : Type 0 where
  -- some exactly where the last comment that reads, in the trailing group at the program's end, gives it; none exactly where no comment of it reads
  pub exactly : ExactlyLast (standard_rule t.source) (end_comments t) o
  -- the source between its two positions is the run, and they are the positions of that place only
  pub shown : IfThere (MapShown t) o
  -- a line ends at LF, a column counts characters, as in the report
  pub columns : Counted characters t.source

-- the answer to the bytes s of a sheet or none
pub record SourceMapRight (s : List ℕ) (answer : MapOutcome) : Type 0 where
  pub answer_is : map_as s answer ≡ source_map_of s
  -- the places of its text lie in s
  pub inside : AnswerInside s answer
  pub empty : s ≡ [] → map_as s answer ≡ given None
  -- a sheet that meets none of refusals 1 to 9 and 13 is answered an optional specifier, which is right
  pub accepted : OfAccepted s (λ t. (o : Option SpecifierWithRange) × (map_as s answer ≡ given o) × MapRight t o)
  -- bytes are refused exactly as the report function refuses them, whatever its buffer, and so never with 10
  pub refusals : (number : ℕ) → (map_as s answer ≡ refused number) ↔ ((one_of of_sheets number ≡ true) × ((size : ℕ) → (answer_of s size).number ≡ number))

-- ---- for C

-- the refusal's number; else 256 where there is a specifier, and 0 where there is none
abbrev pub map_number : MapOutcome → ℕ
map_number (Ok (Some m)) = 256
map_number (Ok None) = 0
map_number (Err r) = number_of r

-- from and to in the sheet, line, column, line, column; zeros where there is none
abbrev pub map_places : MapOutcome → List ℕ
map_places (Ok (Some m)) = m.from ∷ m.to ∷ m.start.line ∷ m.start.column ∷ m.end.line ∷ m.end.column ∷ []
map_places (Ok None) = zeros 6
map_places (Err r) = zeros 6
