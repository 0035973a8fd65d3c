-- What the check of a node finds: for the report, and for the node that holds it.
use Rattle.std.specs.Prelude.{true, false, not, ◌&&◌, ◌||◌, ◌+◌}
use Rattle.sheet.specs.Tree.{Node, Nodes, Arguments, Properties, no_properties, Attributes}
use Rattle.sheet.specs.Shape.{shape, is_require, is_uncooked}
use Rattle.sheet.specs.Walk.{walk_all, walk_of, walk_in, walk_with}
use Rattle.sheet.specs.Walked.{any_argument, first_uncooked, counting, entries, judging, uncooked}
use Rattle.sheet_nodes.specs.declared.tally.Found.{Found}
use Rattle.sheet_nodes.specs.declared.tally.Seen.{Seen}
use Rattle.sheet_nodes.specs.declared.tally.FirstSeen.{FirstSeen}

-- of nodes, of a node, and of arguments
abbrev pub Tally : Type 0
Tally = Found (Unit {0})

abbrev pub NodeTally : Type 0
NodeTally = Found Seen

abbrev pub ArgumentTally : Type 0
ArgumentTally = Found FirstSeen

-- what is found in a node
abbrev pub node_tally : Node → NodeTally
node_tally n =
    record { entries = entries n; uncooked = uncooked n; also = record { require = is_require (shape n); template = is_uncooked (shape n) } }

-- in nodes, in properties and in attributes
abbrev pub tally_all : Nodes → Tally
tally_all ns = record { entries = walk_all counting ns; uncooked = walk_all judging ns; also = tt {0} }

abbrev pub tally_in : Properties → Tally
tally_in ps = record { entries = walk_in counting ps; uncooked = walk_in judging ps; also = tt {0} }

abbrev pub tally_with : Attributes → Tally
tally_with a = record { entries = walk_with counting a; uncooked = walk_with judging a; also = tt {0} }

-- in arguments
abbrev pub tally_of : Arguments → ArgumentTally
tally_of xs =
    record { entries = walk_of counting xs; uncooked = walk_of judging xs; also = record { any = any_argument xs; template = first_uncooked xs } }

-- in one part and in another; what else is asked is that of the first
abbrev pub plus : {T U : Type 0} → Found T → Found U → Found T
plus t u = record { entries = t.entries + u.entries; uncooked = t.uncooked || u.uncooked; also = t.also }

-- what one property adds
abbrev pub gain : (Properties → Properties) → Tally
gain add = tally_in (add no_properties)

-- one argument more: its node counts for the template if there was none before it
abbrev pub with_argument : ArgumentTally → NodeTally → ArgumentTally
with_argument p j = record (plus p j) { also = record { any = true; template = p.also.template || (not p.also.any && j.also.template) } }

-- what stands for the callee of an import: it is listed as `require` is
abbrev pub import_callee : NodeTally
import_callee = record { entries = 0; uncooked = false; also = record { require = true; template = false } }

-- in what follows the callee of a call
abbrev pub tally_call : Arguments × Nodes → ArgumentTally
tally_call p = plus (tally_of p.0) (tally_all p.1)

-- in what follows the head of an import type
abbrev pub tally_typed : Nodes × Attributes → Tally
tally_typed p = plus (tally_all p.0) (tally_with p.1)
