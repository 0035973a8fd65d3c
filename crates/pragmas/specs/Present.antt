-- Demand 3 for references and pragmas, without a parser: each appears exactly when its rule has a reading in the comments that document 01 gives to it.
use Rattle.std.specs.Prelude.{◌≡◌, true, ◌⊎◌, ◌↔◌, ℕ}
use mathlib.Core.List.{List, [], ◌∷◌, ◌++◌, Memᴰ}
use Rattle.std.specs.Prelude.{None, Option, Some}
use Rattle.analysis.specs.declared.Capture.{Capture}
use Rattle.analysis.specs.Mode.{Mode, mode_of}
use Rattle.analysis.specs.Row.{Row}
use Rattle.analysis.specs.Place.{text_of}
use Rattle.analysis.specs.Matches.{RowReading}
use Rattle.analysis.specs.Prefers.{Preferred}
use Rattle.analysis.specs.Patterns.{triple_slash_row, resolution_mode_row}
use Rattle.sheet.specs.declared.comments.Comment.{Comment}
use Rattle.sheet.specs.Lookups.{group_at, body}
use Rattle.sheet.specs.Sheet.{Sheet}
use Rattle.sheet.specs.declared.names.Side.TheVariants.{Leading}
use Rattle.report.specs.ModuleInfo.{SpecifierWithRange, TypeScriptReference, path, types, ModuleInfo}
use Rattle.report.specs.Range.{range_of}
use Rattle.pragmas.specs.Asks.{Asks, path_rule, types_rule, self_types_rule, jsx_import_source_rule, jsx_import_source_types_rule, source_map_url_rule}
use Rattle.pragmas.specs.Asks.{ts_types_rule, deno_types_rule}
use Rattle.pragmas.specs.Readings.{place_in}
use Rattle.pragmas.specs.Pragmas.{head_comments, end_comments, given_to, last_in}

-- the pattern matches some part of the comment's body
abbrev pub Matched : Row → List ℕ → Comment → Type 0
Matched row source c = (k : Capture) × RowReading row (body source c) k

-- the pattern's reading in the comment is x: the text that the preferred match captures, at the range of its place
pub record Read (row : Row) (source : List ℕ) (c : Comment) (x : SpecifierWithRange) : Type 0 where
  pub capture : Capture
  pub preferred : Preferred row (body source c) capture
  pub text : x.text ≡ text_of (body source c) capture
  pub range : x.range ≡ range_of source (place_in c capture)

-- the comments in which there is a reading, and what that gives
pub record Reader (A : Type 0) : Type 1 where
  pub Reads : Comment → Type 0
  pub Gives : Comment → A → Type 0

-- a reader for some comments only
abbrev pub only : {A : Type 0} → (Comment → Type 0) → Reader A → Reader A
only P r = record { Reads = λ c. P c × r.Reads c; Gives = λ c a. P c × r.Gives c a }

-- one or else another, which counts only where the first reads nothing
abbrev pub or_else_by : {A : Type 0} → Reader A → Reader A → Reader A
or_else_by r s = record { Reads = λ c. r.Reads c ⊎ s.Reads c; Gives = λ c a. r.Gives c a ⊎ ((r.Reads c → ⊥) × s.Gives c a) }

-- what is so made of a reading
abbrev pub made : {A B : Type 0} → (Comment → A → B → Type 0) → Reader A → Reader B
made {A} M r = record { Reads = r.Reads; Gives = λ c b. (a : A) × r.Gives c a × M c a b }

-- a rule: its pattern, in comments of the kind that it asks for
abbrev pub by_rule : Asks → List ℕ → Reader SpecifierWithRange
by_rule rule source = only (λ c. rule.kind c.kind ≡ true) (record { Reads = Matched rule.row source; Gives = Read rule.row source })

-- the mode of a types reference: that of the text that the resolution-mode pattern reads; none where it reads nothing
pub data ModeRead (source : List ℕ) (c : Comment) : Mode → Type 0 where
  named : {k : Capture} → Preferred resolution_mode_row (body source c) k → ModeRead source c (mode_of (text_of (body source c) k))
  none : (Matched resolution_mode_row source c → ⊥) → ModeRead source c None

-- the two kinds of references
abbrev pub by_path : List ℕ → Reader TypeScriptReference
by_path source = made (λ c x a. a ≡ path x) (by_rule path_rule source)

abbrev pub by_types : List ℕ → Reader TypeScriptReference
by_types source = made (λ c x a. (m : Mode) × ModeRead source c m × (a ≡ types x m)) (by_rule types_rule source)

abbrev pub by_reference : List ℕ → Reader TypeScriptReference
by_reference source = only (Matched triple_slash_row source) (or_else_by (by_types source) (by_path source))

abbrev pub by_ts_or_deno_types : List ℕ → Reader SpecifierWithRange
by_ts_or_deno_types source = or_else_by (by_rule ts_types_rule source) (by_rule deno_types_rule source)

module _ {A : Type 0} (r : Reader A) where
  -- none of the comments has a reading
  abbrev pub NoReading : List Comment → Type 0
  NoReading cs = (c : Comment) → Memᴰ c cs → r.Reads c → ⊥

  -- one of the comments gives a, and those that are passed on the way to it have no reading
  pub record ReadingPast (passed : List Comment → List Comment → List Comment) (cs : List Comment) (a : A) : Type 0 where
    pub before : List Comment
    pub comment : Comment
    pub behind : List Comment
    pub among : cs ≡ before ++ comment ∷ behind
    pub unread : NoReading (passed before behind)
    pub gives : r.Gives comment a

  -- the first of the comments that have a reading gives a, and the last of them
  abbrev pub FirstReading : List Comment → A → Type 0
  FirstReading = ReadingPast (λ before behind. before)

  abbrev pub LastReading : List Comment → A → Type 0
  LastReading = ReadingPast (λ before behind. behind)

  -- what the comments give, one after the other
  pub data InOrder : List Comment → List A → Type 0 where
    none : InOrder [] []
    reads : {c : Comment} {cs : List Comment} {a : A} {l : List A} → r.Gives c a → InOrder cs l → InOrder (c ∷ cs) (a ∷ l)
    passes : {c : Comment} {cs : List Comment} {l : List A} → (r.Reads c → ⊥) → InOrder cs l → InOrder (c ∷ cs) l

-- there is an answer exactly where there is a reading, and it is that reading's
pub record Exactly {A : Type 0} (Is : A → Type 0) (Not : Type 0) (answer : Option A) : Type 0 where
  pub some : (a : A) → (answer ≡ Some a) ↔ Is a
  pub none : (answer ≡ None) ↔ Not

abbrev pub ExactlyFirst : {A : Type 0} → Reader A → List Comment → Option A → Type 0
ExactlyFirst r cs = Exactly (FirstReading r cs) (NoReading r cs)

abbrev pub ExactlyLast : {A : Type 0} → Reader A → List Comment → Option A → Type 0
ExactlyLast r cs = Exactly (LastReading r cs) (NoReading r cs)

-- the first reading of a rule in the head group's comments, where the sheet's media is one that it asks for
abbrev pub FirstInHead : Asks → Sheet → Option SpecifierWithRange → Type 0
FirstInHead rule t = ExactlyFirst (by_rule rule t.source) (given_to rule t.media (head_comments t))

-- the references and the pragmas of a sheet, as its module information m has them
pub record Present (t : Sheet) (m : ModuleInfo) : Type 0 where
  pub references : (l : List TypeScriptReference) → (m.ts_references ≡ l) ↔ InOrder (by_reference t.source) (head_comments t) l
  pub self_types : FirstInHead self_types_rule t m.self_types_specifier
  pub jsx_import_source : FirstInHead jsx_import_source_rule t m.jsx_import_source
  pub jsx_import_source_types : FirstInHead jsx_import_source_types_rule t m.jsx_import_source_types
  pub source_map_url : ExactlyLast (by_rule source_map_url_rule t.source) (end_comments t) m.source_map_url

-- the types x of an entry whose node starts at `start`: only the last comment of the leading group there counts
abbrev pub TypesPresent : Sheet → ℕ → Option SpecifierWithRange → Type 0
TypesPresent t start =
    Exactly
    (λ x. (c : Comment) × (last_in t.comments (group_at t.groups Leading start) ≡ Some c) × (by_ts_or_deno_types t.source).Gives c x)
    ((c : Comment) → last_in t.comments (group_at t.groups Leading start) ≡ Some c → (by_ts_or_deno_types t.source).Reads c → ⊥)
