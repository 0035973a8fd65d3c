-- What a node is to an attribute, by its head.
use Rattle.std.specs.Prelude.{None, Some, option_map}
use Rattle.laws.proofs.Prelude.{◌≡◌, refl, sym, ap, Bool, cond, true, false, false≢true, ◌⊎◌, inl, inr, List, ℕ, ◌-◌}
use Rattle.laws.{specs.Decoded.ok, specs.Decoded.return, proofs.Decoding.then_ok}
use Rattle.std.specs.{Bool.then_some, Borrow.Bor}
use Rattle.text.specs.Lossy.{exact}
use Rattle.sheet.specs.{declared.fields.Span.Span, Nodes.properties, Nodes.node}
use Rattle.sheet.specs.Tree.{Node, Properties, string, object}
use Rattle.sheet.specs.Shape.{Shape, text, named, pieces, operation, anything, shape}
use Rattle.sheet.specs.Shape as shapes
use Rattle.sheet_heads.specs.{declared.node.Head.Head, code.Rest.rest, code.Views.head_of}
use Rattle.sheet_heads.specs.declared.node.Head.TheVariants as head
use Rattle.sheet_heads.specs.code.Head as heads
use Rattle.sheet_heads.proofs.{ByHead.behind_head, Shapes.shape_by_head}
use Rattle.report.specs.ModuleInfo.{ImportAttributes, unknown}
use Rattle.attributes.specs.declared.props.Value.{Value}
use Rattle.attributes.specs.declared.props.Value.TheVariants as value
use Rattle.attributes.specs.Attributes.{Prop, value_of, of_object}
use Rattle.attributes.specs.code.Views.{is_other, ValueIs}

-- a value, from its head and what follows it
module _ (source s : List ℕ) (levels : ℕ) (x : Head) {sp : Span} {u : List ℕ} {v : Node} {t : List ℕ}
    (read : heads.head source levels s ≡ ok (sp, head_of x) u) (whole : node source levels s ≡ ok v t) where
  follows : rest source (levels - 1) (sp, head_of x) u ≡ ok v t
  follows = behind_head source levels s whole read

  pub text_is : {k : Bor (List ℕ)} → x ≡ head.String k → shape v ≡ text k.now
  text_is {k} h =
      let e = rw h at follows in
      let same : string sp k.now ≡ v = cc in
      rw (← same)

  pub object_is : {n : ℕ} → x ≡ head.Object n
      → (ps : Properties) × (t : List ℕ) × (shape v ≡ shapes.properties ps) × (properties (node source (levels - 1)) n u ≡ ok ps t)
  object_is {n} h =
      let (ps, t, read, e) = then_ok (properties (node source (levels - 1)) n u) (λ ps. return (object sp ps)) (rw h at follows) in
      let same : object sp ps ≡ v = cc in
      (ps, t, ap shape (sym same), read)

  pub other_is : ((k : Bor (List ℕ)) → x ≡ head.String k → ⊥) → ((n : ℕ) → x ≡ head.Object n → ⊥) → is_other (shape v) ≡ true
  other_is no_string no_object =
      rw follows at
      ((shape_by_head source (levels - 1) sp (λ n. is_other (shape n) ≡ true) x (record {
        others = λ n e. rw e;
        strings = λ k e. absurd (no_string k e);
        names = λ k e. refl;
        templates = λ holes e ps ns. refl;
        operations = λ plus e l r. refl;
        objects = λ n e. absurd (no_object n e);
      })).at u)

-- neither a String nor an Object: an attribute of unknown value, and no attributes that could be known
other_value : (x : Shape) → is_other x ≡ true → value_of x ≡ None
other_value (text x) e = absurd (false≢true e)
other_value (named x) e = refl
other_value (pieces ps) e = refl
other_value (operation plus l r) e = refl
other_value (shapes.properties ps) e = absurd (false≢true e)
other_value anything e = refl

other_unknown : (of : List Prop → ImportAttributes) (x : Shape) → is_other x ≡ true → of_object of x ≡ unknown
other_unknown of (text x) e = absurd (false≢true e)
other_unknown of (named x) e = refl
other_unknown of (pieces ps) e = refl
other_unknown of (operation plus l r) e = refl
other_unknown of (shapes.properties ps) e = absurd (false≢true e)
other_unknown of anything e = refl

-- a String: its text, if that is exact
pub string_value : (k : Bor (List ℕ)) (x : Shape) → x ≡ text k.now → option_map (λ (k : Bor (List ℕ)). k.now) (then_some (exact k.now) k) ≡ value_of x
string_value k x e = rw e (by_exact (exact k.now))
  where
    by_exact : (b : Bool) → option_map (λ (k : Bor (List ℕ)). k.now) (then_some b k) ≡ cond b (Some k.now) None
    by_exact true = refl
    by_exact false = refl

-- the same of a value that was read: no String, and no Object
module _ (source : List ℕ) (levels : ℕ) {v : Value} (x : Shape) (is : ValueIs source levels v x) where
  pub no_string : ((n : ℕ) × (s : Bor (List ℕ)) × (v ≡ value.Object n s)) ⊎ (v ≡ value.Other) → value_of x ≡ None
  no_string (inl (n, s, e)) = let object = rw e at is in rw object.2
  no_string (inr e) = other_value x (rw e at is)

  pub no_object : (of : List Prop → ImportAttributes) → ((s : Bor (List ℕ)) × (v ≡ value.Text s)) ⊎ (v ≡ value.Other) → of_object of x ≡ unknown
  no_object of (inl (s, e)) = let string = rw e at is in rw string
  no_object of (inr e) = other_unknown of x (rw e at is)
