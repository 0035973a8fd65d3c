-- How far entries reach holds in one way.
use Rattle.std.specs.Prelude.{ℕ}
use Rattle.std.specs.Coded.{Coded-set, coded_ℕ, Π_prop}
use mathlib.Core.Path.{ap}
use Rattle.sheet.specs.Tree.{Node, Nodes}
use Rattle.sheet_nodes.specs.code.Reach.{Reaches, quiet, past, ReachesIn}

one_reach : {k : ℕ} {ns : Nodes} → IsProp (Reaches k ns)
one_reach (quiet e) (quiet f) = ap quiet (Coded-set coded_ℕ _ _ e f)
one_reach (past a) (past b) = ap past (one_reach a b)

pub one_reach_in : (k : ℕ) (n : Node) → IsProp (ReachesIn k n)
one_reach_in k n = Π_prop (λ sp. Π_prop (λ ns. Π_prop (λ e. one_reach)))
