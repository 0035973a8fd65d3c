use Rattle.laws.proofs.Prelude.{◌≡◌, ◌-◌, length}
use Rattle.replay.specs.{Stored.rows, code.Bounds.Room}
use Rattle.replay.proofs.StoredRows.{onward}
use Rattle.replay.proofs.replay.Given as goal

abbrev pub invariant-loop : goal.invariant-loop
invariant-loop l =
    let left = l.rows - l.counter in
    (length l.buffer ≡ length l.initial.buffer)
    × Room left l.counts
    × (onward (length l.initial.buffer) l.initial.counts (rows l.rows l.initial.next) ≡ onward (length l.initial.buffer) l.counts (rows left l.next))
