-- What the answers of the code stand for.
use Rattle.std.specs.Prelude.{Bool, cond, List, ℕ, ◌≤◌, ◌<◌, leb, length, None, Option, Some, Result, Ok, Err}
use Rattle.std.specs.Borrow.{Bor}
use Rattle.laws.specs.Decoded.{Decoded, ok, no}
use Rattle.wire.specs.declared.refusals.Refusal.{Refusal}
use Rattle.wire.specs.declared.refusals.Refusal.TheVariants.{Byte}
use Rattle.wire.specs.Refusals.{number_of}
use Rattle.wire.specs.Fields.{Values, value_of}
use Rattle.wire.specs.code.Views.{ReadResult, PastWith}
use Rattle.sheet.specs.declared.fields.Span.{Span}
use Rattle.sheet.specs.declared.comments.Comment.{Comment}
use Rattle.sheet.specs.declared.comments.CommentRow.{CommentRow}
use Rattle.sheet.specs.declared.groups.Group.{Group}
use Rattle.sheet.specs.declared.groups.GroupRow.{GroupRow}
use Rattle.sheet.specs.declared.names.Side.{Side}
use Rattle.sheet.specs.Comments.{precedes, anywhere}
use Rattle.sheet.specs.code.Tables.{comments_in, groups_in}

-- the value of a number, or the refusal of a number that is none's
abbrev pub judged_by : {A : Type 0} → Values A → ℕ → Result A Refusal
judged_by values n = cond (leb n (length values.front)) (Ok (value_of values n)) (Err Byte)

-- a span of the source
abbrev pub SpanIn : List ℕ → Span → Type 0
SpanIn source sp = (sp.start ≤ sp.end) × (sp.end ≤ length source)

-- one that was read, with fewer than n bytes behind it
abbrev pub PastSpan : List ℕ → ℕ → ReadResult Span → Type 0
PastSpan source n = PastWith (λ sp next. (length next.now < n) × SpanIn source sp)

-- what a table was filled with, and the bytes behind it, or a refusal
abbrev pub filled_as : {A : Type 0} → List A → Result (Bor (List ℕ)) Refusal → Decoded (List A)
filled_as read (Ok next) = ok read next.now
filled_as read (Err r) = no (number_of r)

abbrev pub comments_as : List CommentRow → Result (Bor (List ℕ)) Refusal → Decoded (List Comment)
comments_as table = filled_as (comments_in table)

abbrev pub groups_as : List GroupRow → Result (Bor (List ℕ)) Refusal → Decoded (List Group)
groups_as table = filled_as (groups_in table)

-- whether a side and a position may come next, behind those of a group, if there is one
abbrev pub after_as : Option (Side × ℕ) → Side → ℕ → Bool
after_as None = anywhere
after_as (Some p) = precedes p.0 p.1
