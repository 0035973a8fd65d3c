use Rattle.laws.proofs.Prelude.{◌≡◌, ◌*◌, ◌≤◌, length, drop}
use Rattle.text.specs.Position.{characters, position_of, Indexed}
use Rattle.text.specs.code.Index.{positions_in}
use Rattle.text.proofs.position.build_index.Given as goal

-- so many rows are written, and as many blocks are passed
abbrev pub invariant-loop-row : goal.invariant-loop-row
invariant-loop-row l =
    (length l.index ≡ length l.initial.index) × (l.p ≡ position_of characters l.s (64 * l.row-index)) × (64 * l.row-index ≤ length l.s)
    × (l.rest ≡ drop (64 * l.row-index) l.s)
    × Indexed characters l.s (positions_in l.index) l.row-index × (drop l.row-index l.index ≡ drop l.row-index l.initial.index)
