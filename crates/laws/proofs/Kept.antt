-- What holds of decoders however they are put together, if it holds of those that they are put together from.
use mathlib.Core.Bool.{Bool, true, false, cond}
use mathlib.Core.List.{List, [], ◌∷◌}
use Prim.Native.Nat.{ℕ, zero, suc}
use lib.ListN.{get_or}
use Rattle.laws.specs.Decoded.{on_ok, Decoder, ◌>>=◌, ◌>>◌, return, refuse, require}

-- such a property of decoders; N says which numbers they may refuse with
pub record Kept (P : (A : Type 0) → Decoder A → Type 0) (N : ℕ → Type 0) : Type 1 where
  pub ends : {A : Type 0} (a : A) → P A (return a)
  pub refuses : {A : Type 0} {r : ℕ} → N r → P A (refuse r)
  pub then : {A B : Type 0} {d : Decoder A} {e : A → Decoder B} → P A d → ((a : A) → P B (e a)) → P B (d >>= e)
  pub changed : {A B : Type 0} {d : Decoder A} (f : A → B) → P A d → P B (λ s. on_ok f (d s))

-- so has each of a list
pub data Each (P : (A : Type 0) → Decoder A → Type 0) {A : Type 0} : List (Decoder A) → Type 0 where
  done : Each P []
  next : {d : Decoder A} {ds : List (Decoder A)} → P A d → Each P ds → Each P (d ∷ ds)

module _ {P : (A : Type 0) → Decoder A → Type 0} {N : ℕ → Type 0} (k : Kept P N) where
  -- behind a test
  pub test : {A : Type 0} (b : Bool) {r : ℕ} {d : Decoder A} → N r → P A d → P A (require b r >> d)
  test true n p = p
  test false n p = k.refuses n

  -- one of two, and one of a list
  pub either : {A : Type 0} (b : Bool) {d e : Decoder A} → P A d → P A e → P A (cond b d e)
  either true p q = p
  either false p q = q

  pub at_index : {A : Type 0} {ds : List (Decoder A)} → Each P ds → (i : ℕ) {r : ℕ} → N r → P A (get_or ds i (refuse r))
  at_index done i n = k.refuses n
  at_index (next p ps) zero n = p
  at_index (next p ps) (suc i) n = at_index ps i n
