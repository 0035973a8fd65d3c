use Rattle.laws.proofs.Prelude.{◌≡◌, ◌+◌, ◌≤◌, length}
use Rattle.laws.specs.Decoded.{on_ok}
use Rattle.sheet.specs.Nodes.{node, nodes}
use Rattle.sheet_nodes.specs.code.Tallies.{tally_all}
use Rattle.sheet_nodes.proofs.{Loops.from_nodes, Reach.Reached}
use Rattle.sheet_nodes.proofs.root.check_children.Given as goal

abbrev pub invariant-loop-k : goal.invariant-loop-k
invariant-loop-k l =
    record {
      room : l.tally.entries + length l.next ≤ length l.fn.s;
      in_all : on_ok tally_all (nodes (node l.source l.levels) l.count l.fn.s) ≡ from_nodes (node l.source l.levels) l.tally l.count l.k l.next;
      reached : Reached (node l.source l.levels) l.count l.fn.s l.k l.reach l.next;
    }
