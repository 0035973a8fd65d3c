-- The first of some arguments that were read.
use Rattle.laws.proofs.Prelude.{◌≡◌, sym, ap, ◌∙◌, Bool, List, ℕ, ◌-◌, ◌≤◌, ◌<◌}
use Rattle.laws.specs.Decoded.{ok, no, and_then, Decoder, return}
use Rattle.laws.proofs.Decoding.{then_ok}
use Rattle.sheet.specs.{declared.fields.Span.Span, Nodes.argument_item, Nodes.arguments}
use Rattle.sheet.specs.Tree.{Node, Arguments, no_arguments, argument}
use Rattle.sheet_heads.specs.code.Parts.{argument_head}
use Rattle.sheet_heads.proofs.ByHead.{argument_rest, argument_by_head}
use Rattle.sheet_heads.proofs.Many.{many_first, many_refused, many_end}

module _ (inner : Decoder Node) (source : List ℕ) where
  -- xs, with t behind them: the first argument by its head, and so many others
  pub record First (k : ℕ) (a : Bool × Span) (v : List ℕ) (xs : Arguments) (t : List ℕ) : Type 0 where
    pub node : Node
    pub between : List ℕ
    pub others : Arguments
    pub read : inner v ≡ ok node between
    pub behind : arguments inner source k between ≡ ok others t
    pub are : xs ≡ argument a.0 a.1 node others

  module _ (k : ℕ) (u : List ℕ) {xs : Arguments} {t : List ℕ} where
    pub first : 0 < k → arguments inner source k u ≡ ok xs t → {a : Bool × Span} {v : List ℕ} → argument_head source u ≡ ok a v → First (k - 1) a v xs t
    unfolding arguments
    first h e {a} {v} f =
        let (add, w, item, ys, others, gives) = many_first no_arguments (argument_item inner source) k u h e in
        let (n, x, is, same) = then_ok (inner v) (λ n. return (argument a.0 a.1 n)) (rw f at (sym (argument_by_head inner source u) ∙ item)) in
        let left : x ≡ w = cc in
        let adds : argument a.0 a.1 n ≡ add = cc in
        record { node = n; between = w; others = ys; read = rw left at is; behind = others; are = sym gives ∙ ap (λ add. add ys) (sym adds) }

    pub no_first : 0 < k → arguments inner source k u ≡ ok xs t → {r : ℕ} → argument_head source u ≡ no r → ⊥
    unfolding arguments
    no_first h e f =
        many_refused no_arguments (argument_item inner source) k u h (argument_by_head inner source u ∙ ap (λ x. and_then x (argument_rest inner)) f) e

    pub no_arguments_lem : k ≤ 0 → arguments inner source k u ≡ ok xs t → xs ≡ no_arguments
    unfolding arguments
    no_arguments_lem h e = many_end no_arguments (argument_item inner source) k u h e
