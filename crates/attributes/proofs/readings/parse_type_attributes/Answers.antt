use Rattle.laws.proofs.Prelude.{rules, true, told}
use Rattle.attributes.specs.code.Views.{object_in}
use Rattle.sheet_heads.proofs.Found.{attributes_left}
use Rattle.attributes.proofs.Parts.{pairs_further}
use Rattle.attributes.proofs.Objects.{type_read}
use Rattle.attributes.proofs.readings.parse_type_attributes.Goals as goal

pub returns-then-parse_import_attributes_from_object_lit-clause-value : goal.returns-then-parse_import_attributes_from_object_lit-clause-value
unfolding object_in
returns-then-parse_import_attributes_from_object_lit-clause-value c y t u e =
    type_read _ _ _ (rw c.in-Some.is at e) (told c.read_attributes.ensures c.in-Ok.is)
    c.if-parse_import_attributes_from_object_lit.ensures.readable
    (λ ps t. c.if-parse_import_attributes_from_object_lit.ensures.unless_stopped (λ a. true) ps t (λ p r says. search rules))

pub returns-else-parse_import_attributes_from_object_lit-clause-value : goal.returns-else-parse_import_attributes_from_object_lit-clause-value
unfolding object_in
returns-else-parse_import_attributes_from_object_lit-clause-value c y t u e =
    type_read _ _ _ (rw c.in-Some.is at e) (told c.read_attributes.ensures c.in-Ok.is)
    c.if-parse_import_attributes_from_object_lit.ensures.readable
    (λ ps t. c.if-parse_import_attributes_from_object_lit.ensures.unless_stopped (λ a. true) ps t (λ p r says. search rules))

pub returns-then-parse_import_attributes_from_object_lit-clause-parts : goal.returns-then-parse_import_attributes_from_object_lit-clause-parts
returns-then-parse_import_attributes_from_object_lit-clause-parts c =
    let rest = (attributes_left c.args.source.now c.args.levels).left _ (told c.read_attributes.ensures c.in-Ok.is) in
    rw c.in-Some.is (pairs_further rest _ c.if-parse_import_attributes_from_object_lit.ensures.parts)
