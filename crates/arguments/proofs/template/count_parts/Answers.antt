use Rattle.laws.proofs.Prelude.{ap, [], ◌+◌, ◌-◌, arith, ltb, length, length-append, sub-zero, told}
use Rattle.sheet.specs.{Nodes.piece}
use Rattle.sheet_heads.proofs.Many.{many_end}
use Rattle.arguments.specs.Argument.{template_parts}
use Rattle.arguments.proofs.{Pieces.piece_next, Pieces.piece_is, Pieces.hole_count, Pieces.one_most}
use Rattle.arguments.proofs.template.count_parts.Goals as goal

pub loop-k-init : goal.loop-k-init
loop-k-init c = (omega arith, λ ps u e. (ps, rw sub-zero e, omega arith))

pub loop-k-preserved : goal.loop-k-preserved
loop-k-preserved c =
    let l = c.loop-k in
    let holes = c.args.pieces.holes in
    let is = rw piece_is at (told c.read_piece.ensures c.in-Ok.is) in
    let hole = hole_count (ltb l.k holes) in
    let cooked = c.count_piece.ensures in (
      omega (arith, one_most (ltb l.k holes), cooked.bounds),
      λ ps u e.
          let (qs, read, total) = l.invariant.1 ps u e in
          let (rs, behind, parts) = piece_next holes l.k (omega arith) l.s.now _ is read in
          (rs, behind, omega (arith, simp length-append at (ap length parts), cooked.answer, hole)),
    )

pub returns : goal.returns
returns c ps u e =
    let l = c.loop-k in
    let (qs, read, total) = l.invariant.1 ps u e in
    let none = ap (λ ps. length (template_parts ps)) (many_end [] piece (c.args.pieces.holes + 1 - l.k) l.s.now (omega arith) read) in
    omega arith
