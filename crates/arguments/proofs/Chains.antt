-- The parts of a chain of pluses, from what was read of its expression.
use Rattle.std.specs.Prelude.{Some, None, Result, Ok, Err}
use Rattle.std.specs.Result.{result_ok}
use Rattle.laws.proofs.Prelude.{◌≡◌, refl, sym, ap, ◌∙◌, ◌⊎◌, inl, inr, List, [], ◌∷◌, ◌++◌, append-nil, flat_map, Option, ℕ, ◌+◌, arith}
use Rattle.laws.proofs.Prelude.{length, length-append}
use Rattle.std.specs.Borrow.{Bor}
use Rattle.laws.specs.Decoded.{Decoded, ok, no, on_ok, Decoder}
use Rattle.laws.proofs.{Lists.flat_map_append, Decoding.refused, Decoding.same_rest}
use Rattle.text.specs.Lossy.{lossy}
use Rattle.wire.specs.{Text.encode_text, Optional.encode_optional}
use Rattle.sheet.specs.{Tree.Node, Shape.shape}
use Rattle.sheet_nodes.specs.code.Tallies.{NodeTally, node_tally}
use Rattle.report.{specs.ModuleInfo.DynamicTemplatePart, specs.Buffer.Written, specs.Buffer.more, proofs.Buffers.more_append}
use Rattle.arguments.specs.declared.template_pieces.TemplatePieces.{TemplatePieces}
use Rattle.arguments.specs.declared.expression.Expression.{Expression}
use Rattle.arguments.specs.declared.expression.Expression.TheVariants as expression
use Rattle.arguments.specs.Argument.{operand, appended, chain}
use Rattle.arguments.specs.code.Views.{encode_parts, IsString, IsTemplate, IsPlus, ExpressionIs, counted}

-- parts one behind the other
pub more_parts : (w : Written) (l m : List DynamicTemplatePart) → more w (encode_parts (l ++ m)) ≡ more (more w (encode_parts l)) (encode_parts m)
more_parts w l m = rw (flat_map_append (encode_optional encode_text) l m, more_append)

-- one part
pub encode_one : (p : DynamicTemplatePart) → encode_parts (p ∷ []) ≡ encode_optional encode_text p
unfolding flat_map
encode_one p = rw append-nil

-- what a count says of the parts
pub uncounted : (o : Option (List DynamicTemplatePart)) (u : List ℕ) → None ≡ counted o u → o ≡ None
uncounted None u e = refl
uncounted (Some l) u e = cc

pub has_count : (o : Option (List DynamicTemplatePart)) (u : List ℕ) {k : ℕ} {v : List ℕ} → Some (k, v) ≡ counted o u
    → (l : List DynamicTemplatePart) × (o ≡ Some l) × (k ≡ length l) × (v ≡ u)
has_count None u e = absurd (cc)
has_count (Some l) u {k} {v} e =
    let same : (k, v) ≡ (length l, u) = cc in
    (l, refl, ap (λ (p : ℕ × List ℕ). p.0) same, ap (λ (p : ℕ × List ℕ). p.1) same)

has_parts : (o : Option (List DynamicTemplatePart)) (p : DynamicTemplatePart) {l : List DynamicTemplatePart} → appended o p ≡ Some l
    → (m : List DynamicTemplatePart) × (o ≡ Some m) × (m ++ (p ∷ []) ≡ l)
has_parts None p e = absurd (cc)
has_parts (Some m) p e = (m, refl, (cc))

-- a chain has the parts that it has
pub only_part : {o : Option (List DynamicTemplatePart)} {l m : List DynamicTemplatePart} → o ≡ Some l → o ≡ Some m → l ≡ m
only_part e f = cc

pub no_parts : {o : Option (List DynamicTemplatePart)} {l : List DynamicTemplatePart} → o ≡ None → o ≡ Some l → ⊥
no_parts e f = cc

-- the check of a node, from what is left of its answer without the refusal
pub check_passed : {A E : Type 0} {r : Result A E} {o : Option A} {a : A} → o ≡ result_ok r → o ≡ Some a → r ≡ Ok a
check_passed {r = Ok b} e f = cc
check_passed {r = Err d} e f = absurd (cc)

pub check_failed : {A E : Type 0} {r : Result A E} {o : Option A} → o ≡ result_ok r → o ≡ None → (d : E) × (r ≡ Err d)
check_failed {r = Ok b} e f = absurd (cc)
check_failed {r = Err d} e f = (d, refl)

-- a node that was read is not refused by its check
pub checked_refused : {x : Decoded Node} {n : Node} {t : List ℕ} → x ≡ ok n t → {r : ℕ} → on_ok node_tally x ≡ no r → ⊥
checked_refused is e = refused (sym e ∙ ap (on_ok node_tally) is)

-- an answer for the node that inner reads
abbrev Counts : Decoder Node → List ℕ → Option (ℕ × List ℕ) → Type 0
Counts inner v y = (n : Node) (t : List ℕ) → inner v ≡ ok n t → y ≡ counted (chain n) t

module _ {text next : List ℕ} {n : Node} {t : List ℕ} (r : IsString text next n t) where
  pub string_operand : operand (shape n) ≡ Some (lossy text)
  string_operand = rw r.is

  pub string_chain : chain n ≡ Some (Some (lossy text) ∷ [])
  unfolding chain
  string_chain = rw r.is

  pub string_counted : Some (1, next) ≡ counted (chain n) t
  string_counted = rw (string_chain, r.past)

module _ {holes : ℕ} {s : List ℕ} {n : Node} (r : IsTemplate holes s n) where
  template_operand : operand (shape n) ≡ None
  template_operand = rw r.is

  template_chain : chain n ≡ None
  unfolding chain
  template_chain = rw r.is

module _ {inner : Decoder Node} {s : List ℕ} {n : Node} {t : List ℕ} (r : IsPlus inner s n t) where
  plus_operand : operand (shape n) ≡ None
  plus_operand = rw r.is

  plus_chain : chain n ≡ appended (chain r.left) (operand (shape r.right))
  unfolding chain
  plus_chain = rw r.is

  pub plus_unknown : Counts inner s None → None ≡ counted (chain n) t
  plus_unknown f = rw (plus_chain, uncounted (chain r.left) r.between (f r.left r.between r.first))

  -- the left side was counted, and v stands behind it
  module _ {k : ℕ} {v : List ℕ} (f : Counts inner s (Some (k, v))) where
    pub at_right : inner v ≡ ok r.right t
    at_right = let (l, is, total, past) = has_count (chain r.left) r.between (f r.left r.between r.first) in ap inner past ∙ r.second

    pub plus_counted : {j : NodeTally} {w : List ℕ} → on_ok node_tally (inner v) ≡ ok j w → Some (k + 1, w) ≡ counted (chain n) t
    plus_counted e =
        let (l, is, total, past) = has_count (chain r.left) r.between (f r.left r.between r.first) in
        let p = operand (shape r.right) in
        let whole : chain n ≡ Some (l ++ (p ∷ [])) = plus_chain ∙ ap (λ o. appended o p) is in
        let longer : k + 1 ≡ length (l ++ (p ∷ [])) = omega (arith, length-append l (p ∷ [])) in
        rw (whole, longer, same_rest node_tally (inner v) at_right e)

  -- the parts of the left side, and the right
  pub plus_parts : {l : List DynamicTemplatePart} → chain n ≡ Some l
      → (m : List DynamicTemplatePart) × (chain r.left ≡ Some m) × (m ++ (operand (shape r.right) ∷ []) ≡ l)
  plus_parts e = has_parts (chain r.left) (operand (shape r.right)) (sym plus_chain ∙ e)

-- an expression that is no part of a chain: no text beside a plus, and no chain
module _ (inner : Decoder Node) {x : Expression} (n : Node) (t : List ℕ) (is : ExpressionIs inner x n t) where
  pub no_text :
      ((pieces : TemplatePieces) × (x ≡ expression.Template pieces))
      ⊎ (((next : Bor (List ℕ)) × (x ≡ expression.Plus next)) ⊎ (x ≡ expression.Other))
      → operand (shape n) ≡ None
  no_text (inl (pieces, e)) = template_operand (rw e at is)
  no_text (inr (inl (next, e))) = plus_operand (rw e at is)
  no_text (inr (inr e)) = (rw e at is).side

  pub not_a_chain : ((pieces : TemplatePieces) × (x ≡ expression.Template pieces)) ⊎ (x ≡ expression.Other) → chain n ≡ None
  not_a_chain (inl (pieces, e)) = template_chain (rw e at is)
  not_a_chain (inr e) = (rw e at is).parts
