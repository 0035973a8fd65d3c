use Rattle.laws.proofs.Prelude.{◌≡◌, List, [], ℕ, ◌+◌, ◌-◌}
use Rattle.laws.specs.Decoded.{ok}
use Rattle.sheet.specs.{Tree.Pieces, Nodes.many, Nodes.piece}
use Rattle.report.specs.Buffer.{written_as, more, Keeps}
use Rattle.arguments.specs.{Argument.template_parts, code.Views.encode_parts}
use Rattle.arguments.proofs.template.put_parts.Given as goal

-- the parts of the pieces that are left, behind those that were written
abbrev pub invariant-loop-k : goal.invariant-loop-k
invariant-loop-k l =
    Keeps l.fn.w l.w
    × ((ps : Pieces) (u : List ℕ) → many [] piece (l.pieces.holes + 1) l.initial.s ≡ ok ps u
    → (qs : Pieces) × (many [] piece (l.pieces.holes + 1 - l.k) l.s ≡ ok qs u)
    × (more (written_as l.fn.w) (encode_parts (template_parts ps)) ≡ more (written_as l.w) (encode_parts (template_parts qs))))
