-- Document 01's number of each value of the enums of a sheet, and their values in this order.
use Rattle.std.specs.Prelude.{[], ◌∷◌, ℕ}
use Rattle.wire.specs.Fields.{Values}
use Rattle.sheet.specs.declared.names.MediaType.{MediaType}
use Rattle.sheet.specs.declared.names.MediaType.TheVariants.{JavaScript, Jsx, Mjs, Cjs, TypeScript, Mts, Cts, Dts, Dmts, Dcts, Tsx}
use Rattle.sheet.specs.declared.names.CommentKind.{CommentKind}
use Rattle.sheet.specs.declared.names.CommentKind.TheVariants.{Line, Block, HtmlOpen, HtmlClose}
use Rattle.sheet.specs.declared.names.Side.{Side}
use Rattle.sheet.specs.declared.names.Side.TheVariants.{Leading, Trailing}
use Rattle.sheet.specs.declared.names.ImportPhase.{ImportPhase}
use Rattle.sheet.specs.declared.names.ImportPhase.TheVariants.{Evaluation, Source, Defer}

abbrev pub media_number : MediaType → ℕ
media_number JavaScript = 0
media_number Jsx = 1
media_number Mjs = 2
media_number Cjs = 3
media_number TypeScript = 4
media_number Mts = 5
media_number Cts = 6
media_number Dts = 7
media_number Dmts = 8
media_number Dcts = 9
media_number Tsx = 10

abbrev pub media_types : Values MediaType
media_types = record { front = JavaScript ∷ Jsx ∷ Mjs ∷ Cjs ∷ TypeScript ∷ Mts ∷ Cts ∷ Dts ∷ Dmts ∷ Dcts ∷ []; last = Tsx }

abbrev pub kind_number : CommentKind → ℕ
kind_number Line = 0
kind_number Block = 1
kind_number HtmlOpen = 2
kind_number HtmlClose = 3

abbrev pub comment_kinds : Values CommentKind
comment_kinds = record { front = Line ∷ Block ∷ HtmlOpen ∷ []; last = HtmlClose }

abbrev pub side_number : Side → ℕ
side_number Leading = 0
side_number Trailing = 1

abbrev pub sides : Values Side
sides = record { front = Leading ∷ []; last = Trailing }

abbrev pub phase_number : ImportPhase → ℕ
phase_number Evaluation = 0
phase_number Source = 1
phase_number Defer = 2

abbrev pub import_phases : Values ImportPhase
import_phases = record { front = Evaluation ∷ Source ∷ []; last = Defer }
