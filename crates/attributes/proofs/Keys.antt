-- A property of the second argument, by its key.
use Rattle.laws.proofs.Prelude.{◌≡◌, Bool, true, false, List, [], ◌∷◌, ℕ}
use Rattle.laws.specs.Ascii.{ascii}
use Rattle.text.specs.Bytes.{same}
use Rattle.sheet.specs.Shape.{Shape}
use Rattle.report.specs.ModuleInfo.{ImportAttributes}
use Rattle.attributes.specs.Attributes.{Prop, keyed, object_attributes, of_object, on_known, is_attributes_key, argument_properties}

module _ (had_with : Bool) (found : ImportAttributes) (k : List ℕ) (v : Shape) (es : List Prop) where
  pub attributes_key : {is_with : Bool} {a : ImportAttributes} → is_attributes_key had_with k ≡ true → is_with ≡ same k (ascii "with") →
      a ≡ of_object (object_attributes []) v
      → argument_properties had_with found (keyed k v ∷ es) ≡ on_known (λ found'. argument_properties is_with found' es) a
  unfolding argument_properties
  attributes_key e f g = rw (e, f, g)

  pub other_key : is_attributes_key had_with k ≡ false → argument_properties had_with found (keyed k v ∷ es) ≡ argument_properties had_with found es
  unfolding argument_properties
  other_key e = rw e
