-- The tree of a sheet from its program and what the check of its root found.
use Rattle.laws.proofs.Prelude.{◌≡◌, ap, ◌∙◌, true, false, List, [], ◌∷◌, ℕ, ◌<◌, arith, length}
use Rattle.laws.specs.Decoded.{ok, no, on_ok}
use Rattle.laws.proofs.Decoding.{on_ok_ok, on_ok_no}
use Rattle.sheet.specs.{Limits.depth_limit, Tree.Node, Program.Program, Program.program, Nodes.node}
use Rattle.sheet_nodes.specs.{code.Tallies.NodeTally, code.Tallies.node_tally, code.Reach.ReachesIn}
use Rattle.sheet_check.specs.{declared.tree.Tree.Tree, code.Pieces.tree, code.Views.Stands}

module _ (source s : List ℕ) {p : Program} {t : List ℕ} (before : program source s ≡ ok p t) where
  pub root_refused : {r : ℕ} → on_ok node_tally (node source depth_limit t) ≡ no r → tree source s ≡ no r
  unfolding tree
  root_refused e = rw (before, on_ok_no node_tally (node source depth_limit t) e)

  pub bytes_follow : {j : NodeTally} (u : List ℕ) → on_ok node_tally (node source depth_limit t) ≡ ok j u → 0 < length u → tree source s ≡ no 8
  unfolding tree
  bytes_follow [] e h = absurd (omega arith)
  bytes_follow (b ∷ u) e h =
      let (root, stands, found) = on_ok_ok node_tally (node source depth_limit t) e in
      rw (before, stands)

  pub root_uncooked : {j : NodeTally} → on_ok node_tally (node source depth_limit t) ≡ ok j [] → j.uncooked ≡ true → tree source s ≡ no 9
  unfolding tree
  root_uncooked e h =
      let (root, stands, found) = on_ok_ok node_tally (node source depth_limit t) e in
      rw (before, stands, ap (λ j. j.uncooked) found ∙ h)

-- the root ends the sheet, and no call in it meets refusal 9
pub tree_stands : (source s : List ℕ) (x : Tree) {j : NodeTally} → program source s ≡ ok x.program x.root.now
    → on_ok node_tally (node source depth_limit x.root.now) ≡ ok j [] → j.uncooked ≡ false → j.entries ≡ x.entries
    → ((n : Node) (t : List ℕ) → node source depth_limit x.root.now ≡ ok n t → ReachesIn x.reach n) → Stands source s x
tree_stands source s x before e h gives reaches =
    let (root, stands, found) = on_ok_ok node_tally (node source depth_limit x.root.now) e in
    record {
      root = root;
      before = before;
      stands = stands;
      cooked = ap (λ j. j.uncooked) found ∙ h;
      gives = ap (λ j. j.entries) found ∙ gives;
      reaches = reaches root [] stands;
    }

pub ruleset trees = (root_refused, bytes_follow, root_uncooked, tree_stands)
