use Rattle.std.specs.Option.{is_some}
use Rattle.laws.proofs.Prelude.{rules, refl, ap, ◌∙◌, [], told}
use Rattle.report.specs.ModuleInfo.{known}
use Rattle.attributes.specs.Attributes.{props, static_attributes}
use Rattle.attributes.specs.code.Views.{object_in}
use Rattle.sheet_heads.proofs.Found.{attributes_left}
use Rattle.attributes.proofs.Parts.{pairs_further}
use Rattle.attributes.proofs.Kept.{known_kept, has_value}
use Rattle.attributes.proofs.{Objects.behind_attributes}
use Rattle.attributes.proofs.readings.parse_import_attributes.Goals as goal

pub returns-clause-value : goal.returns-clause-value
unfolding static_attributes object_in
returns-clause-value c y t u e =
    let (ps, x, object) = behind_attributes _ _ _ (rw c.in-Some.is at e) (told c.read_attributes.ensures c.in-Ok.is) in
    let read = c.parse_import_attributes_from_object_lit.ensures.unless_stopped (λ a. is_some a.value) ps t (λ p r says. search (rules, has_value)) x refl in
    ap known (read ∙ known_kept [] (props ps)) ∙ ap static_attributes object

pub returns-clause-parts : goal.returns-clause-parts
returns-clause-parts c =
    let rest = (attributes_left c.args.source.now c.args.levels).left _ (told c.read_attributes.ensures c.in-Ok.is) in
    rw c.in-Some.is (pairs_further rest _ c.parse_import_attributes_from_object_lit.ensures.parts)
