-- What is read of any bytes stands in them: keys, values, and the pairs of an Object.
use Rattle.std.specs.Prelude.{option_map}
use Rattle.std.specs.{Bool.then_some, Borrow.Bor}
use Rattle.laws.proofs.Prelude.{◌≡◌, Bool, true, false, List, [], ◌∷◌, ℕ}
use Rattle.laws.specs.{Codec.All, Codec.IfThere, Decoded.ok, code.Among.EndOf, code.Among.PartOf}
use Rattle.laws.proofs.{Among.end_further, Among.part_further, Among.part_if_further}
use Rattle.text.specs.Lossy.{exact}
use Rattle.sheet_heads.specs.{declared.parts.Property.Property, code.Parts.property_head, code.Views.property_of}
use Rattle.sheet_heads.specs.declared.parts.Property.TheVariants as property
use Rattle.sheet_heads.proofs.Found.{property_found, key_of}
use Rattle.report.specs.ModuleInfo.{KeyValue, ImportAttributes, none, unknown, known}
use Rattle.attributes.specs.declared.props.Keyed.{Keyed}
use Rattle.attributes.specs.declared.pairs.Pair.{Pair}
use Rattle.attributes.specs.code.Rows.{pair_as}
use Rattle.attributes.specs.code.Views.{prop_in, KnownIn, PairIn, AttributesIn, KeyIn}

-- a text that counts only where it is exact
pub exact_part : {s : List ℕ} (b : Bool) (x : Bor (List ℕ)) → PartOf x.now s → KnownIn s (option_map (λ (x : Bor (List ℕ)). x.now) (then_some b x))
exact_part true x p = p
exact_part false x p = tt

-- a property, by its head
pub key_part : (s : List ℕ) (p : Property) (value : Bor (List ℕ)) → property_head s ≡ ok (property_of p) value.now → KeyIn s (prop_in p value)
key_part s p value e = by_key p (property_found.found s e) (property_found.left s e)
  where
    by_key : (p : Property) → IfThere (λ x. PartOf x s) (key_of (property_of p)) → EndOf value.now s → KeyIn s (prop_in p value)
    by_key property.Spread f l = tt
    by_key property.Other f l = tt
    by_key property.ChildKey f l = tt
    by_key (property.StringKey k) f l = by_exact (exact k.now) f
      where
        by_exact : (b : Bool) → PartOf k.now s → KeyIn s (then_some b (record { key = k; value = value }))
        by_exact true f = (f, l)
        by_exact false f = tt
    by_key (property.NameKey k) f l = (f, l)

-- a pair of a key and of the value behind it, in an end of the bytes
pub pair_part : {s at : List ℕ} → EndOf at s → (k : Keyed) → PartOf k.key.now at × EndOf k.value.now at
    → (p : Pair) → p.key ≡ k.key → KnownIn k.value.now (pair_as p).value → PairIn s (pair_as p)
pair_part e k (key, value) p same inside = (rw same (part_further e key), part_if_further (end_further e value) (pair_as p).value inside)

-- what stands in an end of the bytes
module _ {s t : List ℕ} (e : EndOf t s) where
  pair_further : (a : KeyValue) → PairIn t a → PairIn s a
  pair_further a p = (part_further e p.0, part_if_further e a.value p.1)

  pub pairs_further : (l : List KeyValue) → All (PairIn t) l → All (PairIn s) l
  pairs_further [] p = tt
  pairs_further (a ∷ l) p = (pair_further a p.0, pairs_further l p.1)

  pub attributes_further : (a : ImportAttributes) → AttributesIn t a → AttributesIn s a
  attributes_further none p = tt
  attributes_further unknown p = tt
  attributes_further (known l) p = pairs_further l p
