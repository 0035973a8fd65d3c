-- A decoder and an encoder that undo each other.
use Rattle.std.specs.Prelude.{◌≡◌, List, [], ◌∷◌, ◌++◌, ℕ}
use Rattle.std.specs.Prelude.{None, Option, Some}
use Rattle.laws.specs.Decoded.{ok, Decoder}

-- each valid value is decoded from its bytes, whatever follows them; what is decoded is valid, and stood there as its bytes
pub record Codec {A : Type 0} (decode : Decoder A) (encode : A → List ℕ) (Valid : A → Type 0) : Type 0 where
  pub complete : (a : A) → Valid a → (t : List ℕ) → decode (encode a ++ t) ≡ ok a t
  pub sound : (s : List ℕ) (a : A) (t : List ℕ) → decode s ≡ ok a t → (s ≡ encode a ++ t) × Valid a

-- each of a list is valid
abbrev pub All : {A : Type 0} → (A → Type 0) → List A → Type 0
All Valid [] = Unit {0}
All Valid (a ∷ l) = Valid a × All Valid l

-- what is there is valid
abbrev pub IfThere : {A : Type 0} → (A → Type 0) → Option A → Type 0
IfThere Valid None = Unit {0}
IfThere Valid (Some a) = Valid a
