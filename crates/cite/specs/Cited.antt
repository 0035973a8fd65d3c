-- What `cite` prints for the bytes of a sheet, or none.
use Rattle.std.specs.Prelude.{◌≡◌, cond, List, [], ℕ, ◌+◌, ◌*◌, ◌/◌, leb, length}
use Rattle.wire.specs.Refusals as refusals
use Rattle.sheet.specs.declared.fields.Span.{Span}
use Rattle.sheet.specs.Sheet.{Sheet}
use Rattle.sheet.specs.Revision.{Outside, body_of, Revision}
use Rattle.sheet.specs.Judge.{Judged, empty, sheet, judge}
use Rattle.sheet_codec.specs.SheetOf.{SheetOf}
use Rattle.report.specs.ModuleInfo.{ModuleInfo}
use Rattle.report.specs.Range.{RangeAt}
use Rattle.report.specs.Encode.{encode}
use Rattle.dep.specs.Collect.{numbers_of}
use Rattle.module_info.specs.Information.{module_info, default_info}
use Rattle.module_info.specs.Demands.{OfAccepted}
use Rattle.module_info.specs.Replaced.{noted}
use Rattle.citation.specs.Citation.{Line, printed, lines, citation, refusal}
use Rattle.citation.specs.Right.{ColumnsRight}

-- bytes of the buffer for the report
abbrev pub report_room : ℕ
report_room = 65536

-- numbers of the notes: two for each dependency, which has at least eight bytes, behind how many there are
abbrev pub note_room : ℕ
note_room = 1 + report_room / 4

-- bytes of the buffer for the lines
abbrev pub line_room : ℕ
line_room = 4 * report_room

-- the citation over a source, with the numbers beside the dependencies, if the report is no longer than its buffer
abbrev pub cited_in : List ℕ → List ℕ → ModuleInfo → List ℕ
cited_in source numbers m = cond (leb (length (encode m)) report_room) (citation source numbers m) (refusal refusals.buffer)

-- of no bytes, which have no source, the default information is cited: `module 0`
abbrev pub cited_by : Judged → List ℕ
cited_by empty = cited_in [] [] default_info
cited_by (sheet t) = cited_in t.source (numbers_of (noted t)) (module_info t)
cited_by (Judged.refusal r) = refusal r

unfoldable pub cited : List ℕ → List ℕ
cited s = cited_by (judge s)

-- the columns of the lines of an accepted sheet are those of editors
abbrev pub EditorColumns : List ℕ → Type 0
EditorColumns s = OfAccepted s (λ t. ColumnsRight t.source (lines (numbers_of (noted t)) (module_info t)))

-- where the kth comment is reworded, a line whose place is not inside its body is printed as before
abbrev pub KeptLines : List ℕ → Type 0
KeptLines s = OfAccepted s (λ t. (r : List ℕ) (u : Sheet) → SheetOf r u → (k : ℕ) → Revision t u k
    → (l : Line) (place : Span) → RangeAt t.source l.range place → Outside (body_of t k) place.start → Outside (body_of t k) place.end
    → printed t.source l ≡ printed u.source l)
