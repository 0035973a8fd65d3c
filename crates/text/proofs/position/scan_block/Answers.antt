use Rattle.laws.proofs.Prelude.{arith, rules, eqb}
use Rattle.text.specs.Position.{characters, walk}
use Rattle.text.proofs.Sums.{walk_line, same_place, block_unbroken, block_broken}
use Rattle.text.proofs.position.scan_block.Goals as goal

pub returns-then-last-eq0 : goal.returns-then-last-eq0
returns-then-last-eq0 c =
    let a = c.args in
    let t = a.block.now in
    let lines = c.count_in-lines.ensures (λ b. eqb b 0x0A) (λ b r m e. search rules) in
    let past = c.past_last-last.ensures in
    let begun = c.begun_from-begun.ensures in
    let line = walk_line a.p t in
    let column = block_unbroken a.p t (omega arith) _ past.0 past.1 c.if-last-eq0.true in
    same_place (walk characters a.p t) (omega arith) (omega arith)

pub returns : goal.returns
returns c =
    let a = c.args in
    let t = a.block.now in
    let lines = c.count_in-lines.ensures (λ b. eqb b 0x0A) (λ b r m e. search rules) in
    let past = c.past_last-last.ensures in
    let begun = c.begun_from-begun.ensures in
    let line = walk_line a.p t in
    let column = block_broken a.p t (omega arith) _ past.0 past.1 c.if-last-eq0.false past.2 in
    same_place (walk characters a.p t) (omega arith) (omega arith)
