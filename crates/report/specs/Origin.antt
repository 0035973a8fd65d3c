-- How an entry of the report was found: the rule that gave it, and where in the source. Beside a report, in report order.
use Rattle.std.specs.Prelude.{List, ◌∷◌, ℕ}
use Rattle.wire.specs.Number.{encode_number}
use Rattle.report.specs.declared.origins.EntryRule.{EntryRule}
use Rattle.report.specs.declared.origins.EntryRule.TheVariants.{Path, Types, SelfTypes, JsxImportSource, JsxImportSourceTypes, Brace}
use Rattle.report.specs.declared.origins.EntryRule.TheVariants.{Declaration, SourceMap, TsTypes, DenoTypes}

-- the number of each rule
abbrev pub rule_number : EntryRule → ℕ
rule_number Path = 1
rule_number Types = 2
rule_number SelfTypes = 3
rule_number JsxImportSource = 4
rule_number JsxImportSourceTypes = 5
rule_number Brace = 6
rule_number Declaration = 7
rule_number SourceMap = 8
rule_number TsTypes = 9
rule_number DenoTypes = 10

-- the rule, and the byte of the source at which its comment starts, or its `{` or `@import`
pub record Origin : Type 0 where
  pub rule : EntryRule
  pub offset : ℕ

unfoldable pub encode_origin : Origin → List ℕ
encode_origin o = rule_number o.rule ∷ encode_number o.offset
