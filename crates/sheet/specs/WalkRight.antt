-- Which visits there are and in what order, without a walk.
use Rattle.std.specs.Prelude.{◌≡◌, Some}
use mathlib.Core.List.{List, [], ◌∷◌, ◌++◌, Memᴰ}
use Rattle.sheet.specs.Tree.{Node}
use Rattle.sheet.specs.Walk.{Visit}
use Rattle.sheet.specs.Reached.{children, Walked, own_visit, placed}

mutual
  -- the visits of a node: those of its children, with its own behind them if it is a call, else before them
  pub data Visited : Node → List Visit → Type 0 where
    visited : {n : Node} {inside : List Visit} → AllVisited (children n) inside → Visited n (placed (own_visit n) inside)

  -- of nodes, one after the other
  pub data AllVisited : List Node → List Visit → Type 0 where
    no_nodes : AllVisited [] []
    first : {n : Node} {ns : List Node} {l m : List Visit} → Visited n l → AllVisited ns m → AllVisited (n ∷ ns) (l ++ m)

-- the visit of a node stands among visits, with those of the nodes inside it before it if it is a call, else behind it
pub record StandsAmong (vs : List Visit) (n : Node) (v : Visit) : Type 0 where
  pub before : List Visit
  pub inside : List Visit
  pub behind : List Visit
  pub among : vs ≡ before ++ (placed (Some v) inside ++ behind)
  pub within : AllVisited (children n) inside

-- the visits under a root: in order, each that of a walked node, and each walked node that has one has it there
pub record WalkRight (root : Node) (vs : List Visit) : Type 0 where
  pub in_order : Visited root vs
  pub of_walked : (v : Visit) → Memᴰ v vs → (n : Node) × Walked root n × (own_visit n ≡ Some v)
  pub of_each : (n : Node) → Walked root n → (v : Visit) → own_visit n ≡ Some v → StandsAmong vs n v
