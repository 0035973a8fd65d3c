-- The user's three demands of one call of the report function (docs/DEMANDS.md).
use Rattle.std.specs.Prelude.{◌≡◌, List, [], ℕ}
use Rattle.laws.specs.Codec.{All}
use Rattle.text.specs.Position.{characters, Counted}
use Rattle.sheet.specs.Comments.{slice}
use Rattle.sheet.specs.Quotation.{Quotation}
use Rattle.sheet.specs.Strings.{strings}
use Rattle.sheet.specs.Walk.{visits}
use Rattle.sheet.specs.WalkRight.{WalkRight}
use Rattle.sheet.specs.Revision.{Revision}
use Rattle.sheet.specs.Sheet.{Sheet}
use Rattle.sheet_codec.specs.SheetOf.{SheetOf}
use Rattle.report.specs.Encode.{encode}
use Rattle.report.specs.Answer.{Outcome, outcome_as, fitted}
use Rattle.pragmas.specs.Present.{Present}
use Rattle.pragmas.specs.Texts.{Texts}
use Rattle.jsdoc_list.specs.Demand.{OnlyRight}
use Rattle.dep.specs.InTurn.{InTurn, EntryOf}
use Rattle.module_info.specs.Information.{module_info, answer_of}
use Rattle.module_info.specs.Numbers.{NumberRight}
use Rattle.module_info.specs.Report.{ReportRight}
use Rattle.module_info.specs.Empty.{EmptyRight}
use Rattle.module_info.specs.Unchanged.{Unchanged}

-- what holds of the sheet that the bytes s are, if they meet none of refusals 1 to 9 and 13
abbrev pub OfAccepted : List ℕ → (Sheet → Type 0) → Type 0
OfAccepted s P = (t : Sheet) → SheetOf s t → P t

-- the bytes s of a sheet or none, the size of the lent buffer, the outcome, and what the buffer holds then
pub record Demands (s : List ℕ) (size : ℕ) (outcome : Outcome) (buffer : List ℕ) : Type 0 where
  -- 1: a sheet that meets none of refusals 1 to 9 and 13 yields its complete report if the buffer can hold it, and no bytes the default one; every other
  -- call gets the first refusal that 01's order names, and a buffer of zeros. Nothing is asked of the caller, and old contents do not matter.
  -- 2: the report has the values of 01's rules, `module_info`
  pub answer : outcome_as outcome buffer ≡ answer_of s size
  -- and both without the decoder: the encoding of a sheet within 01's limits, in which no walked call has an uncooked template, gets its report, or 10
  pub complete : OfAccepted s (λ t. outcome_as outcome buffer ≡ fitted size (encode (module_info t)))
  -- no bytes get the report of the default information, or 10
  pub empty : s ≡ [] → EmptyRight size (outcome_as outcome buffer)
  -- and what each number means
  pub number : NumberRight s (outcome_as outcome buffer).number
  -- 2: dependencies and the visits that give one stand one to one, in order: each dependency is the entry of its visit, with the types that the comments
  -- before its node give, the attributes of its Object and the text of its String; the source at a static specifier's range is that String, in two like marks
  pub dependencies : OfAccepted s (λ t. InTurn (EntryOf t) (visits t.root) (module_info t).dependencies)
  -- and these are the visits of the walked nodes: children in sheet order, a call behind all nodes inside it, any other node before them
  pub walk : OfAccepted s (λ t. WalkRight t.root (visits t.root))
  -- every String, one that a node of tags 7 to 12 holds too, begins and ends in the source with the same mark
  pub strings : OfAccepted s (λ t. All (λ sp. Quotation (slice t.source sp)) (strings t.root))
  -- 3: a JSDoc import is listed exactly when the sheet is JavaScript and some star-opened block comment has a reading of it: each once, strictly
  -- ascending by the start of its place, with the one mode that all its readings give; the source there, less the two marks, is its text. No other list
  -- is so
  pub jsdoc : OfAccepted s (λ t. OnlyRight t.media t.source t.comments (module_info t).jsdoc_imports)
  -- and of revisions: where u is an accepted sheet too, the same but for the body of its kth comment, all that does not come from that comment is equal
  pub revisions : OfAccepted s (λ t. (r : List ℕ) (u : Sheet) → SheetOf r u → (k : ℕ) → Revision t u k → Unchanged t u k)
  -- every reference and pragma appears exactly when its rule has a reading in the comments that 01 gives to it, at that reading's place, references in
  -- the order of their comments
  pub pragmas : OfAccepted s (λ t. Present t (module_info t))
  -- the source between the two positions of each is its text, in two marks or bare as the alternative that matched asks
  pub texts : OfAccepted s (λ t. Texts t (module_info t))
  -- and these positions are 01's: a line ends at LF, a column counts characters
  pub columns : OfAccepted s (λ t. Counted characters t.source)
  -- every report can be read back, and its texts are well-formed
  pub report : OfAccepted s (λ t. ReportRight (module_info t))
