-- Each entry with its rule: what stands in the second buffer, beside the report.
use Rattle.std.specs.Prelude.{◌≡◌, cond, ◌↔◌, ℕ, ◌≤◌, ◌<◌, leb, length, Result, Ok, Err}
use mathlib.Core.List.{List, [], ◌∷◌, ◌++◌, map, flat_map}
use Rattle.laws.specs.Aligned.{Aligned}
use Rattle.wire.specs.Refusals as refusals
use Rattle.wire.specs.declared.refusals.Refusal.{Refusal}
use Rattle.wire.specs.Refusals.{number_of}
use Rattle.sheet.specs.Sheet.{Sheet}
use Rattle.sheet.specs.Judge.{Judged, empty, sheet, refusal, judge}
use Rattle.sheet_codec.specs.SheetOf.{SheetOf}
use Rattle.report.specs.ModuleInfo.{SpecifierWithRange, TypeScriptReference, JsDocImportInfo, DependencyDescriptor, ModuleInfo}
use Rattle.report.specs.Origin.{Origin, encode_origin}
use Rattle.report.specs.Encode.{encode}
use Rattle.report.specs.Answer.{Answer, accepted, refused_with, Outcome, outcome_as}
use Rattle.pragmas.specs.Readings.{optional}
use Rattle.pragmas.specs.Pragmas.{head_comments, end_comments}
use Rattle.pragmas.specs.Asks.{self_types_rule, jsx_import_source_rule, jsx_import_source_types_rule, source_map_url_rule}
use Rattle.pragmas.specs.Texts.{types_of}
use Rattle.pragmas.specs.Origins.{types_origins, head_origins, end_origins, TypesFrom, ReferenceFrom, SpecifierFrom}
use Rattle.jsdoc_list.specs.Origins.{jsdoc_origins, JsDocFrom}
use Rattle.dep.specs.Collect.{starts_of}
use Rattle.rules.specs.declared.Lengths.{Lengths}
use Rattle.module_info.specs.Information.{module_info, default_info}
use Rattle.module_info.specs.Replaced.{noted}
use Rattle.module_info.specs.Demands.{OfAccepted, Demands}

-- an entry that a comment gives: the types of a dependency, or what stands in a field of its own
pub data Entry : Type 0 where
  types : SpecifierWithRange → Entry
  reference : TypeScriptReference → Entry
  self_types : SpecifierWithRange → Entry
  jsx_import_source : SpecifierWithRange → Entry
  jsx_import_source_types : SpecifierWithRange → Entry
  jsdoc : JsDocImportInfo → Entry
  source_map_url : SpecifierWithRange → Entry

-- the types of a dependency, if it has any
abbrev pub types_in : DependencyDescriptor → List Entry
types_in d = map types (optional (types_of d))

-- the entries of a report, in its order
unfoldable pub entries_of : ModuleInfo → List Entry
entries_of m =
    flat_map types_in m.dependencies
    ++ ((map reference m.ts_references
    ++ (map self_types (optional m.self_types_specifier)
    ++ (map jsx_import_source (optional m.jsx_import_source) ++ map jsx_import_source_types (optional m.jsx_import_source_types))))
    ++ (map jsdoc m.jsdoc_imports ++ map source_map_url (optional m.source_map_url)))

-- the rule that an origin names reads there, and gives the entry
abbrev pub OriginFor : Sheet → Entry → Origin → Type 0
OriginFor t (types x) o = TypesFrom t.source t.comments x o
OriginFor t (reference a) o = ReferenceFrom t.source (head_comments t) a o
OriginFor t (self_types x) o = SpecifierFrom self_types_rule t.source (head_comments t) x o
OriginFor t (jsx_import_source x) o = SpecifierFrom jsx_import_source_rule t.source (head_comments t) x o
OriginFor t (jsx_import_source_types x) o = SpecifierFrom jsx_import_source_types_rule t.source (head_comments t) x o
OriginFor t (jsdoc i) o = JsDocFrom t.source t.comments i o
OriginFor t (source_map_url x) o = SpecifierFrom source_map_url_rule t.source (end_comments t) x o

-- the origins of a sheet's entries, in report order
unfoldable pub origins_in : Sheet → List Origin
origins_in t =
    flat_map (types_origins t.source t.comments t.groups) (starts_of (noted t))
    ++ (head_origins t.media t.source (head_comments t)
    ++ (jsdoc_origins t.media t.source t.comments ++ end_origins t.source (end_comments t)))

-- the bytes that are written for them
unfoldable pub rules_of : Sheet → List ℕ
rules_of t = flat_map encode_origin (origins_in t)

-- ---- the answer

-- of both buffers, with one number
pub record Answers : Type 0 where
  pub report : Answer
  pub rules : Answer

-- a refusal: both lengths are 0, and both buffers are zero
abbrev pub refused_both : ℕ → ℕ → ℕ → Answers
refused_both number size room = record { report = refused_with number size; rules = refused_with number room }

-- a report and its rules in buffers of so many bytes: refusal 10 where the report is longer than its own, and then 16 where the rules are
unfoldable pub both_fitted : ℕ → ℕ → List ℕ → List ℕ → Answers
both_fitted size room report rules =
    cond (leb (length report) size)
    (cond (leb (length rules) room) (record { report = accepted size report; rules = accepted room rules }) (refused_both refusals.rules size room))
    (refused_both refusals.buffer size room)

-- no bytes have no rules
abbrev pub both_to : ℕ → ℕ → Judged → Answers
both_to size room empty = both_fitted size room (encode default_info) []
both_to size room (sheet t) = both_fitted size room (encode (module_info t)) (rules_of t)
both_to size room (refusal r) = refused_both r size room

-- the answer to bytes and two buffers of so many bytes
unfoldable pub both_of : List ℕ → ℕ → ℕ → Answers
both_of s size room = both_to size room (judge s)

-- what the code answers: both lengths, or a refusal
abbrev pub Ruled : Type 0
Ruled = Result Lengths Refusal

-- what it stands for, with what the buffers have then
abbrev pub both_as : Ruled → List ℕ → List ℕ → Answers
both_as (Ok l) buffer rules = record {
  report = record { number = 0; written = l.report; buffer = buffer };
  rules = record { number = 0; written = l.rules; buffer = rules };
}
both_as (Err r) buffer rules = record {
  report = record { number = number_of r; written = 0; buffer = buffer };
  rules = record { number = number_of r; written = 0; buffer = rules };
}

-- of the report alone
abbrev pub report_of : Ruled → Outcome
report_of (Ok l) = Ok l.report
report_of (Err r) = Err r

-- the bytes s of a sheet or none, the sizes of the two lent buffers, the outcome, and what the buffers hold then
pub record DemandsOfBoth (s : List ℕ) (size room : ℕ) (outcome : Ruled) (buffer rules : List ℕ) : Type 0 where
  -- the report as it is without rules, and beside it the rules, if both buffers can hold them; else one number, and two buffers of zeros
  pub answer : both_as outcome buffer rules ≡ both_of s size room
  -- without the decoder
  pub complete : OfAccepted s (λ t. both_as outcome buffer rules ≡ both_fitted size room (encode (module_info t)) (rules_of t))
  -- 16: the report has room, and the rules have none
  pub sixteen : ((outcome_as (report_of outcome) buffer).number ≡ refusals.rules)
      ↔ ((t : Sheet) × SheetOf s t × (length (encode (module_info t)) ≤ size) × (room < length (rules_of t)))
  -- all else is demanded of the report as before
  pub report : ((outcome_as (report_of outcome) buffer).number ≡ refusals.rules → ⊥) → Demands s size (report_of outcome) buffer
  -- origins and entries stand one to one, in report order: the rule that is named has a reading in the comment that starts at the offset, or from the
  -- offset the smallest `{` or `@import` has one, and that reading gives the entry
  pub origins : OfAccepted s (λ t. Aligned (OriginFor t) (entries_of (module_info t)) (origins_in t))

-- ---- for C

-- the number
abbrev pub ruled_number : Ruled → ℕ
ruled_number (Ok l) = 0
ruled_number (Err r) = number_of r

-- both lengths, 0 on a refusal
abbrev pub ruled_lengths : Ruled → List ℕ
ruled_lengths (Ok l) = l.report ∷ l.rules ∷ []
ruled_lengths (Err r) = 0 ∷ 0 ∷ []
