-- A reading of a comment as a specifier.
use Rattle.std.specs.Prelude.{cond, List, [], ◌∷◌, reverse, ℕ, ◌+◌}
use Rattle.std.specs.Prelude.{None, Option, Some, option_map}
use Rattle.analysis.specs.declared.Capture.{Capture}
use Rattle.analysis.specs.Row.{find}
use Rattle.analysis.specs.Place.{place_of, text_of}
use Rattle.sheet.specs.declared.fields.Span.{Span}
use Rattle.sheet.specs.declared.comments.Comment.{Comment}
use Rattle.sheet.specs.Lookups.{body_span, body}
use Rattle.report.specs.ModuleInfo.{SpecifierWithRange}
use Rattle.report.specs.Range.{range_of}
use Rattle.pragmas.specs.Asks.{Asks}

-- the place of a reading in the source
unfoldable pub place_in : Comment → Capture → Span
place_in c k = record { start = (body_span c).start + (place_of k).from; end = (body_span c).start + (place_of k).to }

-- the captured text, and the positions of the reading's place: `comment_source_to_position_range`
unfoldable pub specifier_in : List ℕ → Comment → Capture → SpecifierWithRange
specifier_in source c k = record { text = text_of (body source c) k; range = range_of source (place_in c k) }

-- the specifier that a rule reads in a comment
unfoldable pub read_by : Asks → List ℕ → Comment → Option SpecifierWithRange
read_by rule source c = cond (rule.kind c.kind) (option_map (specifier_in source c) (find rule.row (body source c))) None

abbrev pub or_else : {A : Type 0} → Option A → Option A → Option A
or_else None b = b
or_else (Some a) b = Some a

-- the first answer among those of some values, as comments, and the last
unfoldable pub first_of : {C A : Type 0} → (C → Option A) → List C → Option A
first_of f [] = None
first_of f (c ∷ cs) = or_else (f c) (first_of f cs)

unfoldable pub last_of : {C A : Type 0} → (C → Option A) → List C → Option A
last_of f cs = first_of f (reverse cs)

-- all answers, in order
abbrev pub listed : {A : Type 0} → Option A → List A → List A
listed None l = l
listed (Some a) l = a ∷ l

-- the answer alone
abbrev pub optional : {A : Type 0} → Option A → List A
optional o = listed o []

unfoldable pub all_of : {C A : Type 0} → (C → Option A) → List C → List A
all_of f [] = []
all_of f (c ∷ cs) = listed (f c) (all_of f cs)
