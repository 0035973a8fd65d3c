use Rattle.laws.proofs.Prelude.{sym, ap, ◌∙◌, false, cond, arith, told}
use Rattle.sheet.specs.Shape.{shape}
use Rattle.report.specs.ModuleInfo.{none, unknown}
use Rattle.attributes.specs.Attributes.{of_object, argument_properties}
use Rattle.laws.proofs.Among.{end_further}
use Rattle.sheet_heads.proofs.Found.{argument_left}
use Rattle.attributes.proofs.{Objects.first_argument, Shapes.no_object, Parts.attributes_further}
use Rattle.attributes.proofs.readings.parse_dynamic_import_attributes.Goals as goal

pub returns-in-Text-clause-value : goal.returns-in-Text-clause-value
returns-in-Text-clause-value c xs t e =
    let (n, u, x, is) = first_argument _ _ _ c.args.count (omega arith) e (told c.read_argument.ensures c.in-Ok.is) in
    sym (is ∙ ap (λ b. cond b unknown (of_object (argument_properties false none) (shape n))) c.if-spread.false
    ∙ no_object _ _ _ (c.read_value.ensures.answer n u x) (argument_properties false none) c.in-Text.is)

pub returns-in-Object-clause-parts : goal.returns-in-Object-clause-parts
returns-in-Object-clause-parts c =
    let within = rw c.in-Object.is at c.read_value.ensures.bounds in
    let argument = (argument_left c.args.source.now).left _ (told c.read_argument.ensures c.in-Ok.is) in
    attributes_further (end_further argument within.2) _ c.parse_argument_properties.ensures.parts
