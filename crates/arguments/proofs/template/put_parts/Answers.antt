use Rattle.laws.proofs.Prelude.{refl, sym, ◌∙◌, [], ◌+◌, ◌-◌, sub-zero, flat_map, arith, ltb, lt-ltb, le-ltb, told}
use Rattle.sheet.specs.{Nodes.piece}
use Rattle.sheet_heads.proofs.Many.{many_end}
use Rattle.report.proofs.Buffers.{more_nil, wrote_none, wrote_keeps, keeps_same, keeps_then}
use Rattle.arguments.proofs.{Chains.more_parts, Chains.encode_one, Pieces.hole_parts, Pieces.piece_next, Pieces.piece_is}
use Rattle.arguments.specs.code.Views.{encode_parts}
use Rattle.report.specs.Buffer.{Wrote}
use Rattle.arguments.proofs.template.put_parts.Goals.{then-k-pieces, else-k-pieces}
use Rattle.arguments.proofs.template.put_parts.Goals as goal

pub loop-k-init : goal.loop-k-init
loop-k-init c = (keeps_same _, λ ps u e. (ps, rw sub-zero e, refl))

-- the part of the hole, if there is one
hole : (c : goal.Joined-k-pieces) → Wrote c.put_piece.new.w c.if-k-pieces.w (encode_parts (hole_parts (ltb c.loop-k.k c.args.pieces.holes)))
unfolding flat_map
hole c =
    elim c.if-k-pieces.branch [
      | then-k-pieces w ↦ rw (w.w-is, lt-ltb c.loop-k.k c.args.pieces.holes w.if-k-pieces.true, encode_one) w.put_expr.ensures
      | else-k-pieces w ↦ rw (w.w-is, le-ltb c.loop-k.k c.args.pieces.holes w.if-k-pieces.false) (wrote_none c.put_piece.new.w)
    ]

pub loop-k-preserved : goal.loop-k-preserved
loop-k-preserved c =
    let hole = hole c in (
      keeps_then c.loop-k.invariant.0 (keeps_then (wrote_keeps _ _ _ c.put_piece.ensures) (wrote_keeps _ _ _ hole)),
      λ ps u e.
          let l = c.loop-k in
          let (qs, read, total) = l.invariant.1 ps u e in
          let is = rw piece_is at (told c.read_piece.ensures c.in-Ok.is) in
          let (rs, behind, parts) = piece_next c.args.pieces.holes l.k (omega arith) l.s.now _ is read in
          (rs, behind, total ∙ rw (parts, more_parts, ← c.put_piece.ensures, more_parts, ← hole)),
    )

pub returns : goal.returns
unfolding flat_map
returns c = record {
  answer = λ ps u e.
      let l = c.loop-k in
      let (qs, read, total) = l.invariant.1 ps u e in
      sym (total ∙ rw (many_end [] piece (c.args.pieces.holes + 1 - l.k) l.s.now (omega arith) read) (more_nil l.w));
  left = c.loop-k.invariant.0;
}
