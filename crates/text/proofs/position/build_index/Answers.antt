use Rattle.laws.proofs.Prelude.{arith, rules, ◌≡◌, refl, ap, ◌∙◌, sym, ◌+◌, ◌*◌, ◌-◌, ◌/◌, ◌≤◌, ◌<◌, length, drop, drop-drop, length-drop, length-set}
use lib.Seq.{drop-set-lt}
use Rattle.text.specs.Position.{characters, walk, position_of}
use Rattle.text.proofs.Positions.{scanned, bounded, index_none, index_more}
use Rattle.text.proofs.position.build_index.Goals as goal

pub loop-row-init : goal.loop-row-init
unfolding position_of walk
loop-row-init c = (refl, search rules, omega arith, refl, index_none _, refl)

pub new-requires : goal.new-requires
new-requires c =
    let (_, at, within, _, _, _) = c.loop-row.invariant in
    let b = bounded c.args.s.now (64 * c.loop-row.row-index) within at in
    (omega arith, omega arith)

pub returns-in_default : goal.returns-in_default
returns-in_default c =
    let s = c.args.s.now in
    let l = c.loop-row in
    let (long, at, within, left, indexed, kept) = l.invariant in
    let short : length s - 64 * l.row-index < 64 = rw (left, length-drop) at (c.in_default.ensures).cases in
    let last : length s / 64 ≡ l.row-index = omega arith in
    let row = c.new.result in
    record {
      answer = rw last (index_more l.index l.row-index row indexed (omega arith) (c.new.ensures ∙ at));
      left = rw last (
        length-set l.index l.row-index row ∙ long,
        drop-set-lt (l.row-index + 1) l.index l.row-index row (omega arith) ∙ sym (drop-drop 1 l.row-index l.index) ∙ ap (drop 1) kept
            ∙ drop-drop 1 l.row-index _,
      );
    }

pub scan_block-p-requires : goal.scan_block-p-requires
scan_block-p-requires c =
    let (_, at, within, _, _, _) = c.loop-row.invariant in
    let b = bounded c.args.s.now (64 * c.loop-row.row-index) within at in
    (omega arith, omega arith)

pub loop-row-preserved : goal.loop-row-preserved
loop-row-preserved c =
    let s = c.args.s.now in
    let l = c.loop-row in
    let (long, at, within, left, indexed, kept) = l.invariant in
    let (block, behind, most) = (c.in-Some.ensures).cases in
    let room : 64 * (l.row-index + 1) ≤ length s = omega (arith, most, ap length left ∙ length-drop (64 * l.row-index) s) in
    let next : 64 * l.row-index + 64 ≡ 64 * (l.row-index + 1) = omega arith in
    let step : 64 * (l.row-index + 1) - 64 * l.row-index ≡ 64 = omega arith in
    let row = c.new.result in (
      length-set l.index l.row-index row ∙ long,
      scanned characters s (64 * l.row-index) (64 * (l.row-index + 1)) (omega arith) at
          (rw (step, ← left, ← block) c.scan_block-p.ensures),
      room,
      behind ∙ ap (drop 64) left ∙ drop-drop 64 (64 * l.row-index) s ∙ ap (λ n. drop n s) next,
      index_more l.index l.row-index row indexed (omega arith) (c.new.ensures ∙ at),
      drop-set-lt (l.row-index + 1) l.index l.row-index row (omega arith) ∙ sym (drop-drop 1 l.row-index l.index) ∙ ap (drop 1) kept
          ∙ drop-drop 1 l.row-index _,
    )

pub returns : goal.returns
returns c =
    let (_, _, within, _, _, _) = c.loop-row.invariant in
    absurd (omega arith)
