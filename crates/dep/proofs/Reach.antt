-- The entries of a root's children up to the last that has one are those of the root.
use Rattle.std.specs.Prelude.{Some}
use Rattle.laws.proofs.Prelude.{◌≡◌, ap, ◌∙◌, sym, List, ℕ, zero, suc, ◌-◌, arith}
use Rattle.laws.specs.Decoded.{ok, on_ok, Decoder}
use Rattle.sheet.specs.{code.Commented.Commented, declared.fields.Span.Span, Nodes.many, Nodes.nodes, Nodes.node}
use Rattle.sheet.specs.Tree.{Node, other, Nodes, more}
use Rattle.sheet_heads.specs.{declared.node.Head.Head, code.Head.head, code.Views.head_of}
use Rattle.sheet_heads.specs.declared.node.Head.TheVariants as heads
use Rattle.sheet_nodes.specs.code.Reach.{Reaches, quiet, past, ReachesIn}
use Rattle.sheet_nodes.proofs.Reach.{children_are}
use Rattle.dep_entries.specs.code.Written.{types_of, Collected, with_entries}
use Rattle.dep_entries.proofs.Wrote.{entries_append}
use Rattle.dep.specs.Collect.{noting}
use Rattle.dep.specs.code.Walk.{after_node, after_nodes, answered}
use Rattle.dep.proofs.Counted.{noted_none}

module _ (c : Commented) (inner : Decoder Node) where
  first_read : (k : ℕ) (u : List ℕ) {n : Node} {ns : Nodes} {t : List ℕ} → nodes inner (suc k) u ≡ ok (more n ns) t
      → (v : List ℕ) × (inner u ≡ ok n v) × (nodes inner k v ≡ ok ns t)
  unfolding nodes many
  first_read k u e = grind arith

  first_walked : (w : Collected) (k : ℕ) (u : List ℕ) (ns : Nodes) {n : Node} {v : List ℕ} → inner u ≡ ok n v
      → answered (on_ok (after_nodes c (after_node c w n)) (nodes inner k v)) ≡ Some (after_nodes c (after_node c w n) ns)
      → answered (on_ok (after_nodes c w) (nodes inner (suc k) u)) ≡ Some (after_nodes c w (more n ns))
  unfolding noting nodes many
  first_walked w k u ns e f = grind (arith, entries_append)

  -- so many of the nodes that were read have the entries of all
  reach_walked : {k : ℕ} {ns : Nodes} → Reaches k ns → (sp : Span) (w : Collected) (count : ℕ) (u : List ℕ) {t : List ℕ} → nodes inner count u ≡ ok ns t
      → answered (on_ok (after_nodes c w) (nodes inner k u)) ≡ Some (after_nodes c w ns)
  unfolding noting nodes many
  reach_walked {ns = ns} (quiet e) sp w count u read = ap (λ l. Some (with_entries w l)) (sym (noted_none c.source (types_of c) (other sp ns) e))
  reach_walked (past r) sp w zero u read = let z : ◌≡◌ {A = ℕ} 0 1 = cc in absurd (omega arith)
  reach_walked (past {k = k} {ns = ns} r) sp w (suc count) u read =
      let (v, first, others) = first_read count u read in first_walked w k u ns first (reach_walked r sp _ count v others)

-- the root, an Other: its children are walked up to the last that has an entry
pub children_walked : (c : Commented) (w : Collected) (levels : ℕ) (u : List ℕ) {n : Node} {t : List ℕ} → node c.source levels u ≡ ok n t
    → {reach : ℕ} → ReachesIn reach n
    → (x : Head) {sp : Span} {v : List ℕ} → head c.source levels u ≡ ok (sp, head_of x) v
    → {count : ℕ} → x ≡ heads.Other count
    → answered (on_ok (after_nodes c w) (nodes (node c.source (levels - 1)) reach v)) ≡ Some (after_node c w n)
unfolding noting
children_walked c w levels u whole reaches x {sp} {v} read is =
    let (ns, behind, made) = children_are c.source u levels x read whole is in
    reach_walked c (node c.source (levels - 1)) (reaches sp ns made) sp w _ v behind ∙ ap (λ n. Some (after_node c w n)) (sym made)
