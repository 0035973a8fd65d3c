use Rattle.laws.proofs.Prelude.{◌≡◌, [], ◌≤◌, length}
use Rattle.laws.specs.Decoded.{on_ok}
use Rattle.sheet.specs.{Nodes.many, Nodes.piece, Shape.any_uncooked}
use Rattle.sheet_heads.proofs.Pieces.{from_pieces}
use Rattle.sheet_heads.proofs.parts.read_pieces.Given as goal

abbrev pub invariant-loop : goal.invariant-loop
invariant-loop l =
    (length l.next ≤ length l.fn.s)
    × (on_ok any_uncooked (many [] piece l.count l.fn.s) ≡ from_pieces l.uncooked l.count l.counter l.next)
