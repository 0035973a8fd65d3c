use Rattle.laws.proofs.Prelude.{◌≡◌, ◌+◌, ◌*◌, ◌≤◌, length}
use Rattle.laws.specs.Decoded.{on_ok}
use Rattle.sheet.specs.Nodes.{node, nodes, arguments, properties}
use Rattle.sheet_nodes.specs.code.Tallies.{tally_of, tally_all, tally_in}
use Rattle.sheet_nodes.proofs.Loops.{from_nodes, from_arguments, from_properties}
use Rattle.sheet_nodes.proofs.check.+check.Given as goal

abbrev pub invariant-check_arguments-loop : goal.invariant-check_arguments-loop
invariant-check_arguments-loop l =
    (l.total.entries + length l.next ≤ length l.fn.s)
    × (on_ok tally_of (arguments (node l.source l.levels) l.source l.count l.fn.s)
    ≡ from_arguments (node l.source l.levels) l.source l.total l.count l.counter l.next)

abbrev pub invariant-check_nodes-loop : goal.invariant-check_nodes-loop
invariant-check_nodes-loop l =
    (l.total.entries + length l.next ≤ length l.fn.s)
    × (on_ok tally_all (nodes (node l.source l.levels) l.count l.fn.s) ≡ from_nodes (node l.source l.levels) l.total l.count l.counter l.next)

abbrev pub invariant-check_properties-loop : goal.invariant-check_properties-loop
invariant-check_properties-loop l =
    (l.total.entries + length l.next ≤ length l.fn.s)
    × (on_ok tally_in (properties (node l.source l.levels) l.count l.fn.s) ≡ from_properties (node l.source l.levels) l.total l.count l.counter l.next)

-- six for each level that is left; a member that calls another on the same level is above it
abbrev pub decreases-check_arguments : goal.decreases-check_arguments
decreases-check_arguments l = 6 * l.levels + 1

abbrev pub decreases-check_attributes : goal.decreases-check_attributes
decreases-check_attributes l = 6 * l.levels

abbrev pub decreases-check_call : goal.decreases-check_call
decreases-check_call l = 6 * l.levels + 2

abbrev pub decreases-check_holding : goal.decreases-check_holding
decreases-check_holding l = 6 * l.levels + 2

abbrev pub decreases-check_node : goal.decreases-check_node
decreases-check_node l = 6 * l.levels

abbrev pub decreases-check_nodes : goal.decreases-check_nodes
decreases-check_nodes l = 6 * l.levels + 1

abbrev pub decreases-check_properties : goal.decreases-check_properties
decreases-check_properties l = 6 * l.levels + 3

abbrev pub decreases-check_property : goal.decreases-check_property
decreases-check_property l = 6 * l.levels + 2

abbrev pub decreases-check_rest : goal.decreases-check_rest
decreases-check_rest l = 6 * l.levels + 4

abbrev pub decreases-check_typed : goal.decreases-check_typed
decreases-check_typed l = 6 * l.levels + 2
