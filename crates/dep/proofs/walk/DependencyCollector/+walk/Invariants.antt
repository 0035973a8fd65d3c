use Rattle.laws.proofs.Prelude.{◌≡◌, ◌+◌, ◌-◌, ◌*◌}
use Rattle.laws.specs.Decoded.{on_ok}
use Rattle.laws.specs.code.Told.{Leaving}
use Rattle.sheet.specs.Nodes.{node, nodes, arguments, properties}
use Rattle.dep_entries.specs.code.Written.{items_as, KeepsItems}
use Rattle.dep.specs.code.Walk.{after_nodes, after_arguments, after_properties}
use Rattle.dep.proofs.walk.DependencyCollector.+walk.Given as goal

-- what is written of all is what is written, behind the items so far, of those that are left
abbrev pub invariant-walk_arguments-loop : goal.invariant-walk_arguments-loop
invariant-walk_arguments-loop l =
    let c = l.self.comments.now in
    let inner = node c.source l.levels in
    let i = l.initial in
    Leaving
    (on_ok (after_arguments c (items_as i.items)) (arguments inner c.source l.count i.left)
    ≡ on_ok (after_arguments c (items_as l.items)) (arguments inner c.source (l.count - l.counter) l.left))
    (KeepsItems i.items l.items)

abbrev pub invariant-walk_nodes-loop : goal.invariant-walk_nodes-loop
invariant-walk_nodes-loop l =
    let c = l.self.comments.now in
    let inner = node c.source l.levels in
    let i = l.initial in
    Leaving
    (on_ok (after_nodes c (items_as i.items)) (nodes inner l.count i.left)
    ≡ on_ok (after_nodes c (items_as l.items)) (nodes inner (l.count - l.counter) l.left))
    (KeepsItems i.items l.items)

abbrev pub invariant-walk_properties-loop : goal.invariant-walk_properties-loop
invariant-walk_properties-loop l =
    let c = l.self.comments.now in
    let inner = node c.source l.levels in
    let i = l.initial in
    Leaving
    (on_ok (after_properties c (items_as i.items)) (properties inner l.count i.left)
    ≡ on_ok (after_properties c (items_as l.items)) (properties inner (l.count - l.counter) l.left))
    (KeepsItems i.items l.items)

-- six for each level that is left; a member that calls another on the same level is above it
abbrev pub decreases-visit_call_expr : goal.decreases-visit_call_expr
decreases-visit_call_expr l = 6 * l.levels + 3

abbrev pub decreases-visit_ts_import_type : goal.decreases-visit_ts_import_type
decreases-visit_ts_import_type l = 6 * l.levels + 2

abbrev pub decreases-visit_ts_module_decl : goal.decreases-visit_ts_module_decl
decreases-visit_ts_module_decl l = 6 * l.levels + 2

abbrev pub decreases-walk_argument : goal.decreases-walk_argument
decreases-walk_argument l = 6 * l.levels + 1

abbrev pub decreases-walk_arguments : goal.decreases-walk_arguments
decreases-walk_arguments l = 6 * l.levels + 2

abbrev pub decreases-walk_attributes : goal.decreases-walk_attributes
decreases-walk_attributes l = 6 * l.levels

abbrev pub decreases-walk_callee : goal.decreases-walk_callee
decreases-walk_callee l = 6 * l.levels + 4

abbrev pub decreases-walk_node : goal.decreases-walk_node
decreases-walk_node l = 6 * l.levels

abbrev pub decreases-walk_nodes : goal.decreases-walk_nodes
decreases-walk_nodes l = 6 * l.levels + 1

abbrev pub decreases-walk_properties : goal.decreases-walk_properties
decreases-walk_properties l = 6 * l.levels + 3

abbrev pub decreases-walk_property : goal.decreases-walk_property
decreases-walk_property l = 6 * l.levels + 2

abbrev pub decreases-walk_rest : goal.decreases-walk_rest
decreases-walk_rest l = 6 * l.levels + 5
