-- What a decoder answers: a value and the bytes that are left, or a refusal's number.
use Rattle.std.specs.Prelude.{Bool, cond, List, ℕ}

pub data Decoded (A : Type 0) : Type 0 where
  ok : A → List ℕ → Decoded A
  no : ℕ → Decoded A

-- the value and what is left handed on; a refusal stays
abbrev pub and_then : {A B : Type 0} → Decoded A → (A → List ℕ → Decoded B) → Decoded B
and_then (ok a t) f = f a t
and_then (no r) f = no r

-- the value changed; a refusal stays
abbrev pub on_ok : {A B : Type 0} → (A → B) → Decoded A → Decoded B
on_ok f (ok a t) = ok (f a) t
on_ok f (no r) = no r

-- a decoder: what it answers of the bytes from its place on
abbrev pub Decoder : Type 0 → Type 0
Decoder A = List ℕ → Decoded A

infixl 20 ◌>>=◌
-- one decoder, and then another that may use its value
abbrev pub ◌>>=◌ : {A B : Type 0} → Decoder A → (A → Decoder B) → Decoder B
◌>>=◌ d f s = and_then (d s) f

infixl 20 ◌>>◌
abbrev pub ◌>>◌ : {A B : Type 0} → Decoder A → Decoder B → Decoder B
◌>>◌ d e s = and_then (d s) (λ a. e)

-- no byte is read, and this is the value
abbrev pub return : {A : Type 0} → A → Decoder A
return a s = ok a s

abbrev pub refuse : {A : Type 0} → ℕ → Decoder A
refuse r s = no r

-- refusal r where the test fails
abbrev pub require : Bool → ℕ → Decoder (Unit {0})
require b r s = cond b (ok tt s) (no r)
