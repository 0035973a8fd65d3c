-- The user's demand on the JSDoc imports of a sheet, stated without a parser.
use Rattle.std.specs.Prelude.{◌≡◌, true, ◌↔◌, ℕ, ◌+◌, ◌<◌, length}
use mathlib.Core.List.{List, [], ◌++◌, Memᴰ}
use Rattle.laws.specs.Ascii.{ascii}
use Rattle.laws.specs.Ordered.{Ordered}
use Rattle.text.specs.declared.position.Position.{Position}
use Rattle.text.specs.Position.{Before}
use Rattle.analysis.specs.Mode.{Mode}
use Rattle.jsdoc.specs.Grammar.{Quote, Reading, From}
use Rattle.sheet.specs.declared.fields.Span.{Span}
use Rattle.sheet.specs.declared.comments.Comment.{Comment}
use Rattle.sheet.specs.Fit.{comment_of}
use Rattle.sheet.specs.Lookups.{body_span, body}
use Rattle.sheet.specs.declared.names.CommentKind.TheVariants.{Block}
use Rattle.sheet.specs.declared.names.MediaType.{MediaType}
use Rattle.sheet.specs.Media.{is_java_script}
use Rattle.report.specs.ModuleInfo.{JsDocImportInfo}
use Rattle.report.specs.Stands.{StandsAt}

-- a block comment whose body begins with `*`
pub record StarOpened (source : List ℕ) (c : Comment) : Type 0 where
  pub block : c.kind ≡ Block
  pub rest : List ℕ
  pub star : body source c ≡ ascii "*" ++ rest

-- the kth comment, star-opened, has a reading with this place of the source and this mode; `from` and `at` are places of its body
pub record ListedIn (source : List ℕ) (cs : List Comment) (place : Span) (mode : Mode) : Type 0 where
  pub k : ℕ
  pub there : k < length cs
  pub opened : StarOpened source (comment_of cs k)
  pub from : ℕ
  pub at : ℕ
  pub reading : From Reading (body source (comment_of cs k)) from at mode
  pub start : place.start ≡ (body_span (comment_of cs k)).start + at
  pub end : place.end ≡ (body_span (comment_of cs k)).start + reading.end

-- the bytes are a Quote of the text: it stands between two of one mark, which it does not have
abbrev pub InQuote : List ℕ → List ℕ → Type 0
InQuote text bytes = Quote text bytes []

-- an import stands at a place
abbrev pub ImportAt : List ℕ → JsDocImportInfo → Span → Type 0
ImportAt source i place = StandsAt InQuote source i.specifier place

-- the list has an import that stands at the place, with this mode
pub record Lists (source : List ℕ) (l : List JsDocImportInfo) (place : Span) (mode : Mode) : Type 0 where
  pub import : JsDocImportInfo
  pub among : Memᴰ import l
  pub stands : ImportAt source import place
  pub mode_is : import.mode ≡ mode

abbrev pub start_of : JsDocImportInfo → Position
start_of i = i.specifier.range.start

-- each starts before all that follow it
abbrev pub Ascending : List JsDocImportInfo → Type 0
Ascending = Ordered (λ i j. Before (start_of i) (start_of j))

-- a list of imports is as it is demanded of a sheet
pub record JsDocRight (media : MediaType) (source : List ℕ) (cs : List Comment) (l : List JsDocImportInfo) : Type 0 where
  -- it lists an import exactly when the sheet is JavaScript and some star-opened block comment has a reading of it
  pub exactly : (place : Span) (mode : Mode) → Lists source l place mode ↔ ((is_java_script media ≡ true) × ListedIn source cs place mode)
  -- each import stands at some place, so the source between its positions, less the two marks, is its text
  pub placed : (i : JsDocImportInfo) → Memᴰ i l → (place : Span) × ImportAt source i place
  -- each once, strictly ascending by the start of its place
  pub ascending : Ascending l
  -- all readings whose place starts there have the same place and mode
  pub one_mode : (p q : Span) (m n : Mode) → ListedIn source cs p m → ListedIn source cs q n → p.start ≡ q.start → (p.end ≡ q.end) × (m ≡ n)

-- and it is the only one
pub record OnlyRight (media : MediaType) (source : List ℕ) (cs : List Comment) (l : List JsDocImportInfo) : Type 0 where
  pub right : JsDocRight media source cs l
  pub only : (m : List JsDocImportInfo) → JsDocRight media source cs m → m ≡ l
