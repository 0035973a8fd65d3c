-- The fields that a sheet is made of, each with the refusals that are judged at it.
use Rattle.std.specs.Prelude.{Bool, cond, List, [], ◌∷◌, ℕ, suc, eqb, leb, ltb, length, get_or, take, drop}
use Rattle.laws.specs.Decoded.{ok, no, Decoder, ◌>>=◌, ◌>>◌, return, require}
use Rattle.wire.specs.Refusals as refusals

-- a byte; refusal 2 where the bytes end
unfoldable pub byte : Decoder ℕ
byte [] = no refusals.cut_off
byte (b ∷ s) = ok b s

-- a byte below a limit; refusal 3 for any other
unfoldable pub below : ℕ → Decoder ℕ
below limit = do
  b ← byte
  require (ltb b limit) refusals.byte
  return b

-- the values of an enum in the order of their numbers, which begin at 0; the last one by itself
pub record Values (A : Type 0) : Type 0 where
  pub front : List A
  pub last : A

-- the value of a number; of any greater one, the last
abbrev pub value_of : {A : Type 0} → Values A → ℕ → A
value_of values n = get_or values.front n values.last

-- a value by its number, a byte; refusal 3 for any other byte
unfoldable pub numbered : {A : Type 0} → Values A → Decoder A
numbered values = do
  b ← below (suc (length values.front))
  return (value_of values b)

-- a byte, 0 or 1
unfoldable pub flag : Decoder Bool
flag = do
  b ← below 2
  return (eqb b 1)

abbrev pub encode_flag : Bool → List ℕ
encode_flag b = cond b 1 0 ∷ []

-- so many bytes; refusal 2 where there are fewer
unfoldable pub bytes : ℕ → Decoder (List ℕ)
bytes n s = cond (leb n (length s)) (ok (take n s) (drop n s)) (no refusals.cut_off)
