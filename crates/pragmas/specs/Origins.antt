-- How each reference and pragma was found: the rule that gave it, and where the comment starts that it was read in.
use Rattle.std.specs.Prelude.{◌≡◌, ◌⊎◌, ℕ}
use mathlib.Core.List.{List, ◌++◌, Memᴰ}
use Rattle.std.specs.Prelude.{None, Option, Some, option_map}
use Rattle.sheet.specs.declared.comments.Comment.{Comment}
use Rattle.sheet.specs.declared.groups.Group.{Group}
use Rattle.sheet.specs.declared.names.MediaType.{MediaType}
use Rattle.sheet.specs.declared.names.Side.TheVariants.{Leading}
use Rattle.sheet.specs.Lookups.{group_at}
use Rattle.report.specs.ModuleInfo.{SpecifierWithRange, TypeScriptReference, path, types}
use Rattle.report.specs.declared.origins.EntryRule.{EntryRule}
use Rattle.report.specs.Origin.{Origin}
use Rattle.pragmas.specs.Asks.{Asks, path_rule, types_rule, self_types_rule, jsx_import_source_rule, jsx_import_source_types_rule, source_map_url_rule}
use Rattle.pragmas.specs.Asks.{ts_types_rule, deno_types_rule}
use Rattle.pragmas.specs.Readings.{read_by, or_else, first_of, last_of, all_of, optional}
use Rattle.pragmas.specs.Pragmas.{reference, given_to, last_in}
use Rattle.pragmas.specs.Present.{Reader, by_rule, by_path, by_types}

-- an entry that a rule gave, read in a comment
abbrev pub origin_of : EntryRule → Comment → Origin
origin_of rule c = record { rule = rule; offset = c.span.start }

-- that of what a rule reads in a comment
unfoldable pub origin_by : Asks → List ℕ → Comment → Option Origin
origin_by rule source c = option_map (λ x. origin_of rule.entry c) (read_by rule source c)

-- a reference is a path or a types one
abbrev pub rule_of : TypeScriptReference → EntryRule
rule_of (path x) = path_rule.entry
rule_of (types x mode) = types_rule.entry

unfoldable pub reference_origin : List ℕ → Comment → Option Origin
reference_origin source c = option_map (λ a. origin_of (rule_of a) c) (reference source c)

-- that of a rule's first reading
unfoldable pub first_origin : Asks → MediaType → List ℕ → List Comment → Option Origin
first_origin rule media source cs = first_of (origin_by rule source) (given_to rule media cs)

-- those of the head group's comments, in report order
unfoldable pub head_origins : MediaType → List ℕ → List Comment → List Origin
head_origins media source cs =
    all_of (reference_origin source) cs
    ++ (optional (first_origin self_types_rule media source cs)
    ++ (optional (first_origin jsx_import_source_rule media source cs)
    ++ optional (first_origin jsx_import_source_types_rule media source cs)))

-- that of the source map, the last reading in the comments at the program's end
unfoldable pub end_origins : List ℕ → List Comment → List Origin
end_origins source cs = optional (last_of (origin_by source_map_url_rule source) cs)

-- by the ts-types rule, or else by the deno-types one
unfoldable pub ts_or_deno_origin : List ℕ → Comment → Option Origin
ts_or_deno_origin source c = or_else (origin_by ts_types_rule source c) (origin_by deno_types_rule source c)

abbrev pub types_origin : List ℕ → Option Comment → Option Origin
types_origin source None = None
types_origin source (Some c) = ts_or_deno_origin source c

-- that of the types of an entry, none or one, from the last comment of the leading group at the start of its node
unfoldable pub types_origins : List ℕ → List Comment → List Group → ℕ → List Origin
types_origins source cs gs start = optional (types_origin source (last_in cs (group_at gs Leading start)))

-- ---- without the functions

-- a reading in one of the comments, which starts at the offset, gives a
pub record GivenFrom {A : Type 0} (r : Reader A) (cs : List Comment) (a : A) (offset : ℕ) : Type 0 where
  pub comment : Comment
  pub among : Memᴰ comment cs
  pub starts : comment.span.start ≡ offset
  pub gives : r.Gives comment a

-- it is this rule's, and so given
abbrev pub FromRule : {A : Type 0} → Asks → Reader A → List Comment → A → Origin → Type 0
FromRule rule r cs a o = (o.rule ≡ rule.entry) × GivenFrom r cs a o.offset

abbrev pub SpecifierFrom : Asks → List ℕ → List Comment → SpecifierWithRange → Origin → Type 0
SpecifierFrom rule source = FromRule rule (by_rule rule source)

abbrev pub ReferenceFrom : List ℕ → List Comment → TypeScriptReference → Origin → Type 0
ReferenceFrom source cs a o = FromRule types_rule (by_types source) cs a o ⊎ FromRule path_rule (by_path source) cs a o

abbrev pub TypesFrom : List ℕ → List Comment → SpecifierWithRange → Origin → Type 0
TypesFrom source cs x o = SpecifierFrom ts_types_rule source cs x o ⊎ SpecifierFrom deno_types_rule source cs x o
