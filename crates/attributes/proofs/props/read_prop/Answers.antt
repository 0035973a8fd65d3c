use Rattle.laws.proofs.Prelude.{told}
use Rattle.laws.proofs.Decoding.{on_ok_ok}
use Rattle.sheet.specs.Nodes.{node, property_item}
use Rattle.sheet_heads.proofs.Found.{property_left}
use Rattle.attributes.proofs.Parts.{key_part}
use Rattle.attributes.proofs.props.read_prop.Goals as goal

pub returns-clause-parts : goal.returns-clause-parts
returns-clause-parts c =
    let s = c.args.s.now in
    let source = c.args.source.now in
    let read = told c.read_property.ensures c.in_ok-p.was in
    let (add, item, tallied) = on_ok_ok _ (property_item (node source c.args.levels) s) (told c.check_property.ensures c.in_ok-next.was) in
    (rw (c.prop_of.ensures) (key_part s c.in_ok-p.p c.in_ok-p.value read), (property_left source c.args.levels).left s item)
