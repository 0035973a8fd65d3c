use Rattle.laws.proofs.Prelude.{◌≡◌, List, [], ℕ, ◌+◌, ◌-◌, ◌*◌, ◌≤◌, length}
use Rattle.laws.specs.Decoded.{ok}
use Rattle.sheet.specs.{Tree.Pieces, Nodes.many, Nodes.piece}
use Rattle.arguments.specs.Argument.{template_parts}
use Rattle.arguments.proofs.template.count_parts.Given as goal

-- the parts of the pieces that are left, behind those that were counted
abbrev pub invariant-loop-k : goal.invariant-loop-k
invariant-loop-k l =
    (l.parts ≤ 2 * l.k)
    × ((ps : Pieces) (u : List ℕ) → many [] piece (l.pieces.holes + 1) l.initial.s ≡ ok ps u
    → (qs : Pieces) × (many [] piece (l.pieces.holes + 1 - l.k) l.s ≡ ok qs u)
    × (length (template_parts ps) ≡ l.parts + length (template_parts qs)))
