use Rattle.laws.proofs.Prelude.{sym, []}
use Rattle.attributes.specs.Attributes.{object_attributes}
use Rattle.attributes.proofs.{Shapes.no_object, Parts.pairs_further}
use Rattle.attributes.proofs.readings.parse_nested.Goals as goal

pub returns-in-Text-clause-value : goal.returns-in-Text-clause-value
returns-in-Text-clause-value c v t e = sym (no_object _ _ _ (c.read_value.ensures.answer v t e) (object_attributes []) c.in-Text.is)

pub returns-in-Object-clause-parts : goal.returns-in-Object-clause-parts
returns-in-Object-clause-parts c h =
    let within = rw c.in-Object.is at c.read_value.ensures.bounds in
    pairs_further within.2 _ c.parse_import_attributes_from_object_lit.ensures.parts
