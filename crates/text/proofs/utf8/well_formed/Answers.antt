use Rattle.laws.proofs.Prelude.{arith, rules, ltb, ltb-true, sym, ◌∙◌, ◌+◌, ◌≤◌, length, length-drop}
use Rattle.std.proofs.lemmas.List.{take_rest}
use Rattle.text.proofs.{Formed.ended, Ascii.ascii_run, Tested.from_place, WellFormed.judged}
use Rattle.text.proofs.utf8.well_formed.Goals as goal

pub loop-at-preserved-then-all_in_block : goal.loop-at-preserved-then-all_in_block
loop-at-preserved-then-all_in_block c =
    let a = c.args in
    let l = c.loop-at in
    let f = rw take_rest at c.all_in_block.ensures c.if-all_in_block.true in
    let below = f.1 (λ b. ltb b 128) (λ b r m e. search rules) in
    let room : l.at + 32 ≤ length a.s.now = omega (arith, f.0, length-drop l.at a.s.now) in
    (room, l.invariant.1 ∙ ascii_run a.encoding a.s.now l.at 32 room (λ k h. ltb-true _ _ (from_place (λ b. ltb b 128) a.s.now l.at 32 below k h)))

pub loop-at-preserved-then-all_in_block-2 : goal.loop-at-preserved-then-all_in_block-2
loop-at-preserved-then-all_in_block-2 c =
    let a = c.args in
    let l = c.loop-at in
    let f = rw take_rest at c.all_in_block-else-all_in_block.ensures c.if-all_in_block-2.true in
    let below = f.1 (λ b. ltb b 128) (λ b r m e. search rules) in
    let room : l.at + 8 ≤ length a.s.now = omega (arith, f.0, length-drop l.at a.s.now) in
    (room, l.invariant.1 ∙ ascii_run a.encoding a.s.now l.at 8 room (λ k h. ltb-true _ _ (from_place (λ b. ltb b 128) a.s.now l.at 8 below k h)))

pub returns-then-r-stop : goal.returns-then-r-stop
returns-then-r-stop c =
    let l = c.loop-at in
    let r = c.run_to-r.ensures in
    judged _ _ (sym (l.invariant.1 ∙ r.0 ∙ r.2 c.if-r-stop.true))

pub returns : goal.returns
returns c = judged _ _ (sym (c.loop-at.invariant.1 ∙ ended _ _ _ c.loop-at-test.false))
