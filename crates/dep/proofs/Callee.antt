-- Whether a callee is the Name `require`, by its head.
use Rattle.std.specs.Borrow.{Bor}
use Rattle.laws.proofs.Prelude.{◌≡◌, refl, false, List, ℕ, ◌-◌}
use Rattle.laws.specs.{Decoded.Decoded, Decoded.ok, Decoded.no, Ascii.ascii}
use Rattle.laws.proofs.Answers.{Answer}
use Rattle.text.specs.Bytes.{same}
use Rattle.sheet.specs.{declared.fields.Span.Span, Tree.Node, Nodes.node, Shape.shape, Shape.is_require}
use Rattle.sheet_heads.specs.{declared.node.Head.Head, code.Rest.rest, code.Views.head_of}
use Rattle.sheet_heads.specs.declared.node.Head.TheVariants as head
use Rattle.sheet_heads.specs.code.Head as heads
use Rattle.sheet_heads.proofs.{ByHead.node_by_head, Shapes.shape_by_head}
use Rattle.dep.specs.code.Walk.{names_require}

module _ (source : List ℕ) (levels : ℕ) (u : List ℕ) where
  pub callee_cut : {r : ℕ} → heads.head source levels u ≡ no r → names_require (node source levels u) ≡ false
  callee_cut e = rw (node_by_head source levels u, e)

  module _ {sp : Span} (x : Head) {w : List ℕ} (read : heads.head source levels u ≡ ok (sp, head_of x) w) where
    pub callee_named : (y : Bor (List ℕ)) → x ≡ head.Name y → names_require (node source levels u) ≡ same y.now (ascii "require")
    callee_named y is = rw (node_by_head source levels u, read, is)

    pub callee_unnamed : ((y : Bor (List ℕ)) → x ≡ head.Name y → ⊥) → names_require (node source levels u) ≡ false
    callee_unnamed no_name =
        rw (node_by_head source levels u, read)
        (go (rest source (levels - 1) (sp, head_of x) w)
        ((shape_by_head source (levels - 1) sp (λ n. is_require (shape n) ≡ false) x
        (record {
          others = λ n e. rw e;
          strings = λ y e. refl;
          names = λ y e. absurd (no_name y e);
          templates = λ holes e ps ns. refl;
          operations = λ plus e l r. refl;
          objects = λ n e ps. refl;
        })).at w))
      where
        go : (x : Decoded Node) → Answer (λ n. is_require (shape n) ≡ false) (λ r. Unit {0}) x → names_require x ≡ false
        go (ok n t) h = h
        go (no r) h = refl
