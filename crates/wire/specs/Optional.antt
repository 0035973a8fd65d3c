-- An optional thing: a flag, then the thing if it is 1.
use Rattle.std.specs.Prelude.{true, false, cond, List, ◌++◌, ℕ}
use Rattle.std.specs.Prelude.{None, Option, Some}
use Rattle.laws.specs.Decoded.{Decoder, on_ok, ◌>>=◌, return}
use Rattle.wire.specs.Fields.{flag, encode_flag}

unfoldable pub optional : {A : Type 0} → Decoder A → Decoder (Option A)
optional thing = do
  there ← flag
  cond there (λ s. on_ok (λ a. Some a) (thing s)) (return None)

unfoldable pub encode_optional : {A : Type 0} → (A → List ℕ) → Option A → List ℕ
encode_optional encode None = encode_flag false
encode_optional encode (Some a) = encode_flag true ++ encode a
