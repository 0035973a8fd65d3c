-- What is written for a call, from what is written for its parts, and attributes by their head.
use Rattle.std.specs.Borrow.{Bor}
use Rattle.laws.proofs.Prelude.{◌≡◌, ◌⊎◌, Bool, true, false, List, [], inl, inr, Option, ℕ, ◌-◌, arith}
use Rattle.laws.specs.Decoded.{Decoded, ok, and_then, on_ok, Decoder, ◌>>=◌, return}
use Rattle.sheet.specs.{code.Commented.Commented, declared.fields.Span.Span}
use Rattle.sheet.specs.declared.names.ImportPhase.TheVariants.{Evaluation, Source, Defer}
use Rattle.std.specs.Bool.{then_some}
use Rattle.sheet.specs.Tree.{Node, call, Attributes}
use Rattle.sheet.specs.Nodes.{many, nodes, call_rest, node, attributes_object}
use Rattle.sheet_heads.specs.{declared.node.Head.Head, code.Rest.behind, code.Rest.rest, code.Views.head_of, code.Parts.attributes_head}
use Rattle.sheet_heads.proofs.ByHead.{attributes_by_head, attributes_rest}
use Rattle.report.specs.declared.names.DynamicDependencyKind.TheVariants as dynamics
use Rattle.sheet_heads.specs.declared.node.Head.TheVariants as head
use Rattle.report.specs.ModuleInfo.{SpecifierWithRange}
use Rattle.attributes.specs.code.Views.{object_in}
use Rattle.dep_entries.specs.code.Written.{Collected, with_entries}
use Rattle.dep_entries.proofs.Wrote.{entries_append}
use Rattle.dep.specs.Collect.{noting, collect_noted}
use Rattle.dep.specs.code.Walk.{Calls, call_by, callees_of, names_require, after_node, after_nodes, after_call}
use Rattle.dep.proofs.Added.{entries_last}

-- attributes that are there, by their head
pub attributes_behind : (source : List ℕ) (levels : ℕ) (u : List ℕ) (b : Bool) → b ≡ true
    → behind b (attributes_object source levels) u ≡ and_then (attributes_head source levels u) (attributes_rest source (levels - 1))
attributes_behind source levels u b is = rw is (attributes_by_head source levels u)

-- attributes behind their flag, as those of the Object that may be there
pub object_behind : (d : Decoder Attributes) (b : Bool) (s : Bor (List ℕ)) {a : Attributes} {t : List ℕ} → behind b d s.now ≡ ok a t
    → object_in d (then_some b s) s.now ≡ ok a t
unfolding object_in
object_behind d true s e = e
object_behind d false s e = e

-- the head of a node that holds nothing and has no entry
abbrev pub Leaf : Head → Type 0
Leaf x = ((text : Bor (List ℕ)) × (x ≡ head.String text))
    ⊎ (((text : Bor (List ℕ)) × (x ≡ head.Name text)) ⊎ (((type_only : Bool) × (x ≡ head.NamedExport type_only)) ⊎ (x ≡ head.ImportEquals)))

-- a node that holds nothing and has no entry: a String, a Name, an export or an import-equals that names no module; of a source with comments it is
-- `after_node c`, where these give the types
module _ (source : List ℕ) (types : ℕ → Option SpecifierWithRange) where
  pub leaf_holds : (levels : ℕ) (sp : Span) (x : Head) → Leaf x
      → {w : Collected} → with_entries w [] ≡ w → (u : List ℕ)
      → ok w u ≡ on_ok (λ n. with_entries w (collect_noted source types n)) (rest source levels (sp, head_of x) u)
  unfolding noting
  leaf_holds levels sp x (inl (text, k)) e u = rw (k, e)
  leaf_holds levels sp x (inr (inl (text, k))) e u = rw (k, e)
  leaf_holds levels sp x (inr (inr (inl (type_only, k)))) e u = rw (k, e)
  leaf_holds levels sp x (inr (inr (inr k))) e u = rw (k, e)

module _ (c : Commented) (w : Collected) where
  -- a call of an expression, its callee walked
  called : (sp : Span) (inner : Decoder Node) (x : Decoded Node) {v : Collected} {t : List ℕ} → on_ok (after_node c w) x ≡ ok v t
      → on_ok (after_node c w) (and_then x (λ n. call_rest inner c.source >>= λ p. return (call sp n p.0 p.1)))
      ≡ on_ok (after_call c (then_some (names_require x) (record { kind = dynamics.Require; span = sp })) v) (call_rest inner c.source t)
  unfolding noting
  called sp inner x e = grind (arith, entries_append)

  -- a call, its callee walked, if that is an expression
  pub call_walked : (levels : ℕ) (sp : Span) (x : Head) (u : List ℕ) → Calls x → with_entries w [] ≡ w → {v : Collected} {t : List ℕ}
      → on_ok (after_nodes c w) (nodes (node c.source levels) (callees_of x) u) ≡ ok v t
      → on_ok (after_node c w) (rest c.source levels (sp, head_of x) u)
      ≡ on_ok (after_call c (call_by c.source levels sp u x) v) (call_rest (node c.source levels) c.source t)
  unfolding noting nodes many
  call_walked levels sp x u (inl (Evaluation, e)) same f = grind arith
  call_walked levels sp x u (inl (Source, e)) same f = grind arith
  call_walked levels sp x u (inl (Defer, e)) same f = grind arith
  call_walked levels sp x u (inr e) same f = grind (arith, called, entries_last)
