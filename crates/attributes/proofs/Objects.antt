-- Where the readings begin: an Object that holds attributes, and the first of some arguments.
use Rattle.laws.proofs.Prelude.{◌≡◌, sym, ap, ◌∙◌, Bool, true, false, cond, not, List, [], ℕ, ◌-◌, ◌<◌}
use Rattle.laws.specs.Decoded.{ok, no, Decoder, return}
use Rattle.laws.proofs.Decoding.{refused, then_ok}
use Rattle.sheet.specs.{declared.fields.Span.Span, Shape.shape}
use Rattle.sheet.specs.Tree.{Node, Arguments, Properties, Attributes, with_object}
use Rattle.sheet.specs.Nodes.{arguments, properties, node, attributes_object}
use Rattle.sheet_heads.{specs.code.Parts.argument_head, specs.code.Parts.attributes_head, proofs.ByHead.attributes_by_head, proofs.FirstArgument.first}
use Rattle.report.specs.ModuleInfo.{KeyValue, none, unknown}
use Rattle.attributes.specs.Attributes.{props, type_attributes, of_object, argument_properties, dynamic_attributes}
use Rattle.attributes.specs.code.Views.{known_if, kept, all_keyed}
use Rattle.attributes.proofs.Kept.{all_read}

module _ (source : List ℕ) (levels : ℕ) (u : List ℕ) {a : Attributes} {t : List ℕ} (e : attributes_object source levels u ≡ ok a t) where
  pub behind_attributes : {sp : Span} {n : ℕ} {w : List ℕ} → attributes_head source levels u ≡ ok (sp, n) w
      → (ps : Properties) × (properties (node source (levels - 1)) n w ≡ ok ps t) × (with_object sp ps ≡ a)
  behind_attributes {sp} {n} {w} f =
      let (ps, v, x, y) = then_ok (properties (node source (levels - 1)) n w) (λ ps. return (with_object sp ps))
      (rw f at (sym (attributes_by_head source levels u) ∙ e)) in
      (ps, cc, cc)

  -- the pairs behind the head, if they are all that the Object has, are the attributes of an import type
  pub type_read : {sp : Span} {n : ℕ} {w : List ℕ} → attributes_head source levels u ≡ ok (sp, n) w → {l : List KeyValue} {readable : Bool}
      → ((ps : Properties) (t : List ℕ) → properties (node source (levels - 1)) n w ≡ ok ps t → readable ≡ all_keyed (props ps))
      → ((ps : Properties) (t : List ℕ) → properties (node source (levels - 1)) n w ≡ ok ps t → not readable ≡ false → l ≡ kept (λ a. true) [] (props ps))
      → known_if readable l ≡ type_attributes a
  unfolding type_attributes
  type_read f keys read = let (ps, x, object) = behind_attributes f in all_read (props ps) (keys ps t x) (read ps t x) ∙ ap type_attributes object

  pub no_attributes : {r : ℕ} → attributes_head source levels u ≡ no r → ⊥
  no_attributes f = refused (rw f at (sym (attributes_by_head source levels u) ∙ e))

module _ (inner : Decoder Node) (source u : List ℕ) {xs : Arguments} {t : List ℕ} where
  pub first_argument : (k : ℕ) → 0 < k → arguments inner source k u ≡ ok xs t → {p : Bool × Span} {w : List ℕ} → argument_head source u ≡ ok p w
      → (n : Node) × (v : List ℕ) × (inner w ≡ ok n v) × (dynamic_attributes xs ≡ cond p.0 unknown (of_object (argument_properties false none) (shape n)))
  unfolding dynamic_attributes
  first_argument k h e f =
      let x = first inner source k u h e f in
      (x.node, x.between, x.read, ap dynamic_attributes x.are)
