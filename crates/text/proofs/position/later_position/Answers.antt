use Rattle.laws.proofs.Prelude.{arith, ◌∙◌}
use Rattle.text.specs.Position.{characters}
use Rattle.text.proofs.Positions.{scanned, bounded, indexed}
use Rattle.text.proofs.position.later_position.Goals as goal

pub scan-requires : goal.scan-requires
scan-requires c =
    let p = c.requires in
    let a = c.args in
    let most = bounded a.s.now a.from p.0 p.2 in
    (omega (arith, most.0), omega (arith, most.1))

pub returns-then-at-from : goal.returns-then-at-from
returns-then-at-from c =
    let p = c.requires in
    let a = c.args in
    scanned characters a.s.now a.from a.at c.if-from-at.true p.2 c.scan.ensures

pub returns : goal.returns
returns c = c.indexed_position.ensures ∙ indexed c.requires.3 c.args.at c.requires.1
