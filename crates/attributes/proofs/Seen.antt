-- A property, by its head, as the readings see it.
use Rattle.laws.proofs.Prelude.{◌≡◌, refl, sym, ◌∙◌, Bool, true, false, List, ◌∷◌, ℕ}
use Rattle.std.specs.{Bool.then_some, Borrow.Bor}
use Rattle.laws.specs.Decoded.{ok, Decoder, ◌>>=◌, return}
use Rattle.laws.proofs.Decoding.{then_ok}
use Rattle.text.specs.Lossy.{exact}
use Rattle.sheet.specs.Tree.{Node, Properties, spread, other_property, child_key, string_key, name_key}
use Rattle.sheet.specs.Nodes.{property_item}
use Rattle.sheet_heads.specs.{declared.parts.Property.Property, code.Parts.property_head, code.Views.property_of}
use Rattle.sheet_heads.specs.declared.parts.Property.TheVariants as property
use Rattle.sheet_heads.proofs.ByHead.{property_by_head, property_rest}
use Rattle.attributes.specs.Attributes.{Prop, props}
use Rattle.attributes.specs.code.Views.{prop_in, SeenAs, KeyedIs}

-- a property that is read from s, with u behind it, and its value at `value`
module _ (inner : Decoder Node) (s : List ℕ) (value : Bor (List ℕ)) {u : List ℕ} {add : Properties → Properties} (item : property_item inner s ≡ ok add u) where
  seen_as : {e : Prop} (build : Properties → Properties) → build ≡ add → ((ps : Properties) → props (build ps) ≡ e ∷ props ps) → SeenAs inner s u e
  seen_as build is f = record { add = add; item = item; sees = rw is at f }

  by_rest : (p : Property) → property_rest inner (property_of p) value.now ≡ ok add u → KeyedIs inner s (prop_in p value) u
  unfolding props
  by_rest property.Spread e =
      let (n, t, x, y) = then_ok (inner value.now) (λ n. return (spread n)) e in
      let is : spread n ≡ add = cc in
      seen_as (spread n) is (λ ps. refl)
  by_rest property.Other e =
      let (n, t, x, y) = then_ok (inner value.now) (λ n. return (other_property n)) e in
      let is : other_property n ≡ add = cc in
      seen_as (other_property n) is (λ ps. refl)
  by_rest property.ChildKey e =
      let (k, t, x, y) = then_ok (inner value.now) (λ k. inner >>= λ v. return (child_key k v)) e in
      let (v, r, z, q) = then_ok (inner t) (λ v. return (child_key k v)) y in
      let is : child_key k v ≡ add = cc in
      seen_as (child_key k v) is (λ ps. refl)
  by_rest (property.StringKey k) e =
      let (v, t, x, y) = then_ok (inner value.now) (λ v. return (string_key k.now v)) e in
      let is : string_key k.now v ≡ add = cc in
      let value_read : inner value.now ≡ ok v u = cc in
      by_exact v is value_read (exact k.now) refl
    where
      by_exact : (v : Node) → string_key k.now v ≡ add → inner value.now ≡ ok v u
          → (b : Bool) → exact k.now ≡ b → KeyedIs inner s (then_some b (record { key = k; value = value })) u
      by_exact v is x true q = (v, x, seen_as (string_key k.now v) is (λ ps. rw q))
      by_exact v is x false q = seen_as (string_key k.now v) is (λ ps. rw q)
  by_rest (property.NameKey k) e =
      let (v, t, x, y) = then_ok (inner value.now) (λ v. return (name_key k.now v)) e in
      let is : name_key k.now v ≡ add = cc in
      let value_read : inner value.now ≡ ok v u = cc in
      (v, value_read, seen_as (name_key k.now v) is (λ ps. refl))

  pub prop_is : (p : Property) → property_head s ≡ ok (property_of p) value.now → KeyedIs inner s (prop_in p value) u
  prop_is p e = by_rest p (rw e at (sym (property_by_head inner s) ∙ item))
