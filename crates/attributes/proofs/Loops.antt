-- A loop over the properties of an Object: going on from what was found so far gives what going through all of them gives.
use Rattle.laws.proofs.Prelude.{◌≡◌, sym, ap, ◌∙◌, List, [], ◌∷◌, ℕ, ◌+◌, ◌-◌, ◌≤◌, ◌<◌, arith}
use Rattle.laws.specs.Decoded.{Decoded, ok, no, on_ok, Decoder}
use Rattle.laws.proofs.Decoding.{refused, on_ok_ok}
use Rattle.sheet.specs.Tree.{Node, Properties, no_properties}
use Rattle.sheet.specs.Nodes.{many, property_item, properties}
use Rattle.sheet_heads.proofs.Many.{many_next, found, found_step, found_stop, found_end}
use Rattle.attributes.specs.{Attributes.Prop, Attributes.props, code.Views.SeenAs}

-- `after w es` is the answer, where w was found before the properties es
module _ {W R : Type 0} (after : W → List Prop → R) (inner : Decoder Node) where
  abbrev from : W → ℕ → List ℕ → Decoded R
  from = found (λ w ps. after w (props ps)) no_properties (property_item inner)

  -- n properties of s₀ give what those of s behind the first i give where w was found before them
  pub record Going (w₀ : W) (n : ℕ) (s₀ : List ℕ) (w : W) (i : ℕ) (s : List ℕ) : Type 0 where
    pub rest : from w₀ n s₀ ≡ from w (n - i) s

module _ {W R : Type 0} {after : W → List Prop → R} {inner : Decoder Node} {w₀ : W} {n : ℕ} {s₀ : List ℕ} {w : W} {i : ℕ} {s : List ℕ}
    (g : Going after inner w₀ n s₀ w i s) where
  -- one more
  pub goes_on : {u : List ℕ} {e : Prop} → i < n → SeenAs inner s u e → {w' : W} → ((es : List Prop) → after w (e ∷ es) ≡ after w' es)
      → Going after inner w₀ n s₀ w' (i + 1) u
  goes_on {u} h x {w'} f =
      let down : n - i - 1 ≡ n - (i + 1) = omega arith in
      let step = found_step (λ w ps. after w (props ps)) no_properties (property_item inner) w w' (n - i) s (omega arith) x.item
      (λ ps. ap (after w) (x.sees ps) ∙ f (props ps)) in
      record { rest = g.rest ∙ (rw down at step) }

  module _ (ps : Properties) (t : List ℕ) (e : properties inner n s₀ ≡ ok ps t) where
    all : from after inner w (n - i) s ≡ ok (after w₀ (props ps)) t
    unfolding properties
    all = sym g.rest ∙ ap (on_ok (λ ps. after w₀ (props ps))) e

    -- no property stands there
    pub stops : {q : ℕ} → i < n → property_item inner s ≡ no q → ⊥
    stops h x = refused (sym (found_stop (λ w ps. after w (props ps)) no_properties (property_item inner) w (n - i) s (omega arith) x) ∙ all)

    -- none is left
    pub ends : n ≤ i → after w [] ≡ after w₀ (props ps)
    unfolding props
    ends h =
        let last = sym (found_end (λ w ps. after w (props ps)) no_properties (property_item inner) w (n - i) s (omega arith)) ∙ all in
        cc

    -- one settles the answer, whatever follows
    pub settles : {u : List ℕ} {e : Prop} → i < n → SeenAs inner s u e → (r : R) → ((es : List Prop) → after w (e ∷ es) ≡ r) → r ≡ after w₀ (props ps)
    settles h x r f =
        let (qs, many_read, y) = on_ok_ok (λ ps. after w (props ps)) (many no_properties (property_item inner) (n - i) s) all in
        let (others, behind, z) = many_next no_properties (property_item inner) (n - i) s (omega arith) x.item many_read in
        sym (f (props others)) ∙ sym (ap (after w) (x.sees others)) ∙ ap (λ ps. after w (props ps)) z ∙ y
