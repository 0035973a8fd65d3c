-- Where the JSDoc imports of a sheet are read: the origins that are written beside them, and what is demanded of these.
use Rattle.std.specs.Prelude.{◌≡◌, cond, ℕ, zero, suc, ◌+◌, ◌<◌, eqb, length, get_or}
use mathlib.Core.List.{List, [], ◌∷◌, flat_map}
use Prim.Native.Char.{code}
use Rattle.analysis.specs.Mode.{Mode}
use Rattle.jsdoc.specs.Grammar.{Bytes, Brace, Declaration, Reading, From}
use Rattle.jsdoc.specs.Origins.{openers}
use Rattle.sheet.specs.declared.comments.Comment.{Comment}
use Rattle.sheet.specs.declared.names.MediaType.{MediaType}
use Rattle.sheet.specs.Fit.{comment_of}
use Rattle.sheet.specs.Lookups.{body_span, body}
use Rattle.sheet.specs.Media.{is_java_script}
use Rattle.report.specs.declared.origins.EntryRule.{EntryRule}
use Rattle.report.specs.declared.origins.EntryRule.TheVariants as rules
use Rattle.report.specs.ModuleInfo.{JsDocImportInfo}
use Rattle.report.specs.Origin.{Origin}
use Rattle.jsdoc_list.specs.Imports.{is_star_opened}
use Rattle.jsdoc_list.specs.Demand.{StarOpened, ImportAt}

-- the rule of what place k of a body opens: `{` a Brace reading, `@` a Declaration
abbrev pub rule_at : List ℕ → ℕ → EntryRule
rule_at body k = cond (eqb (get_or body k 0) (code "{")) rules.Brace rules.Declaration

-- the origin of a reading from place k of a body that starts at `start`
abbrev pub opener_at : List ℕ → ℕ → ℕ → Origin
opener_at body start k = record { rule = rule_at body k; offset = start + k }

-- the origins by 1 + the place of each opener, ascending by quote
unfoldable pub openers_from : List ℕ → ℕ → List ℕ → List Origin
openers_from body start [] = []
openers_from body start (zero ∷ table) = openers_from body start table
openers_from body start (suc k ∷ table) = opener_at body start k ∷ openers_from body start table

-- the origins of the imports of one comment
unfoldable pub origins_of : List ℕ → Comment → List Origin
origins_of source c = cond (is_star_opened source c) (openers_from (body source c) (body_span c).start (openers (body source c))) []

-- none but in JavaScript
unfoldable pub jsdoc_origins : MediaType → List ℕ → List Comment → List Origin
jsdoc_origins media source cs = cond (is_java_script media) (flat_map (origins_of source) cs) []

-- the readings that a rule names: the two of the grammar
abbrev pub reading_by : EntryRule → Bytes → Bytes → Bytes → Mode → Type 0
reading_by rules.Brace s q e m = Brace s q e m
reading_by rules.Declaration s q e m = Declaration s q e m
reading_by rules.Path s q e m = ⊥
reading_by rules.Types s q e m = ⊥
reading_by rules.SelfTypes s q e m = ⊥
reading_by rules.JsxImportSource s q e m = ⊥
reading_by rules.JsxImportSourceTypes s q e m = ⊥
reading_by rules.SourceMap s q e m = ⊥
reading_by rules.TsTypes s q e m = ⊥
reading_by rules.DenoTypes s q e m = ⊥

-- the kth comment, star-opened, has at the offset a reading by the rule that yields the import, and no smaller place reads it
pub record JsDocFrom (source : List ℕ) (cs : List Comment) (i : JsDocImportInfo) (o : Origin) : Type 0 where
  pub k : ℕ
  pub there : k < length cs
  pub opened : StarOpened source (comment_of cs k)
  pub from : ℕ
  pub at : ℕ
  pub reading : From (reading_by o.rule) (body source (comment_of cs k)) from at i.mode
  pub offset : o.offset ≡ (body_span (comment_of cs k)).start + from
  pub stands : ImportAt source i (record { start = (body_span (comment_of cs k)).start + at; end = (body_span (comment_of cs k)).start + reading.end })
  pub least : (j : ℕ) (m : Mode) → j < from → From Reading (body source (comment_of cs k)) j at m → ⊥
