-- What stands behind the head of an expression, by the head.
use Rattle.std.specs.Prelude.{None}
use Rattle.std.specs.Borrow.{Bor}
use Rattle.laws.proofs.Prelude.{◌≡◌, refl, Bool, true, false, List, [], ℕ, ◌-◌, ◌+◌, arith}
use Rattle.laws.{specs.Decoded.ok, proofs.Decoding.then_ok}
use Rattle.sheet.specs.{declared.fields.Span.Span, Shape.anything, Shape.shape}
use Rattle.sheet.specs.Tree.{Node, other, string, name, template, binary, object, import_call, call, import_decl, named_export, export_from, export_all}
use Rattle.sheet.specs.Tree.{import_type, import_equals, import_require, module_decl}
use Rattle.sheet.specs.Nodes.{many, piece, nodes, node}
use Rattle.sheet_heads.specs.{declared.node.Head.Head, code.Rest.rest, code.Views.head_of}
use Rattle.sheet_heads.specs.declared.node.Head.TheVariants as head
use Rattle.sheet_heads.specs.code.Head as heads
use Rattle.sheet_heads.proofs.{ByHead.behind_head, Shapes.shape_by_head}
use Rattle.arguments.specs.Argument.{chain, argument_of}
use Rattle.arguments.specs.code.Views.{Unknown, IsString, IsTemplate, IsPlus}

-- a node that is anything else is no chain
no_chain : (n : Node) → shape n ≡ anything → chain n ≡ None
unfolding chain
no_chain (other sp ns) e = refl
no_chain (string sp x) e = let z : ◌≡◌ {A = ℕ} 0 1 = cc in absurd (omega arith)
no_chain (name sp x) e = refl
no_chain (template sp ps ns) e = refl
no_chain (binary sp plus l r) e = let z : ◌≡◌ {A = ℕ} 0 1 = cc in absurd (omega arith)
no_chain (object sp ps) e = refl
no_chain (import_call sp phase xs ns) e = refl
no_chain (call sp n xs ns) e = refl
no_chain (import_decl sp type_only phase side_effect x a) e = refl
no_chain (named_export sp type_only) e = refl
no_chain (export_from sp type_only x a) e = refl
no_chain (export_all sp type_only x a) e = refl
no_chain (import_type sp x ns a) e = refl
no_chain (import_equals sp) e = refl
no_chain (import_require sp type_only export x) e = refl
no_chain (module_decl sp x ns) e = refl

-- an expression, from its head and what follows it
module _ (source s : List ℕ) (levels : ℕ) (x : Head) {sp : Span} {next : List ℕ} {n : Node} {t : List ℕ}
    (whole : node source levels s ≡ ok n t) (read : heads.head source levels s ≡ ok (sp, head_of x) next) where
  follows : rest source (levels - 1) (sp, head_of x) next ≡ ok n t
  follows = behind_head source levels s whole read

  pub reads_string : {text : Bor (List ℕ)} → x ≡ head.String text → IsString text.now next n t
  reads_string h = let e = rw h at follows in record { span = sp; is = cc; past = cc }

  pub reads_template : {holes : ℕ} → x ≡ head.Template holes → IsTemplate holes next n
  reads_template {holes} h =
      let (ps, u, pieces, behind) = then_ok (many [] piece (holes + 1) next) _ (rw h at follows) in
      let (ns, v, held, e) = then_ok (nodes (node source (levels - 1)) holes u) _ behind in
      record { span = sp; pieces = ps; nodes = ns; behind = u; is = cc; read = pieces }

  pub reads_plus : {plus : Bool} → x ≡ head.Binary plus → plus ≡ true → IsPlus (node source (levels - 1)) next n t
  reads_plus h on =
      let (l, u, left, behind) = then_ok (node source (levels - 1) next) _ (rw (h, on) at follows) in
      let (m, v, right, e) = then_ok (node source (levels - 1) u) _ behind in
      record { span = sp; left = l; right = m; between = u; is = cc; first = left; second = cc }

  pub reads_minus : {plus : Bool} → x ≡ head.Binary plus → plus ≡ false → Unknown n
  unfolding chain argument_of
  reads_minus h off =
      let (l, u, left, behind) = then_ok (node source (levels - 1) next) _ (rw (h, off) at follows) in
      let (m, v, right, e) = then_ok (node source (levels - 1) u) _ behind in
      let minus : binary sp false l m ≡ n = cc in
      rw (← minus) (record { side = refl; parts = refl; whole = refl; single = refl })

  pub reads_other : ((text : Bor (List ℕ)) → x ≡ head.String text → ⊥) → ((holes : ℕ) → x ≡ head.Template holes → ⊥) →
      ((plus : Bool) → x ≡ head.Binary plus → ⊥) → Unknown n
  unfolding chain argument_of
  reads_other no_string no_template no_binary =
      rw follows at
      ((shape_by_head source (levels - 1) sp Unknown x
      (record {
        others = λ n e. record { side = rw e; parts = no_chain n e; whole = rw e; single = rw e };
        strings = λ y h. absurd (no_string y h);
        names = λ y h. record { side = refl; parts = refl; whole = refl; single = refl };
        templates = λ holes h ps ns. absurd (no_template holes h);
        operations = λ plus h l r. absurd (no_binary plus h);
        objects = λ n h ps. record { side = refl; parts = refl; whole = refl; single = refl };
      })).at next)

-- each kind of expression
pub ruleset reads = (reads_string, reads_template, reads_plus, reads_minus, reads_other)
