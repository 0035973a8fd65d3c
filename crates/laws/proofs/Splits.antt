-- Decoders in two parts: a first, and what is read behind it.
use mathlib.Core.Path.{◌≡◌, refl}
use mathlib.Core.Bool.{Bool, true, false, cond}
use mathlib.Core.List.{List, [], ◌∷◌}
use Prim.Native.Nat.{ℕ, zero, suc}
use lib.ListN.{get_or}
use Rattle.laws.specs.Decoded.{Decoded, ok, no, and_then, on_ok, Decoder, ◌>>=◌, return, refuse}

-- a decoder d is a decoder h, with what g reads behind it
pub record Splits {A B : Type 0} (g : B → Decoder A) (d : Decoder A) (h : Decoder B) : Type 0 where
  pub at : (s : List ℕ) → d s ≡ and_then (h s) g

-- so does each of a list
pub data Each {A B : Type 0} (g : B → Decoder A) : List (Decoder A) → List (Decoder B) → Type 0 where
  done : Each g [] []
  next : {d : Decoder A} {h : Decoder B} {ds : List (Decoder A)} {hs : List (Decoder B)} → Splits g d h → Each g ds hs → Each g (d ∷ ds) (h ∷ hs)

module _ {A B : Type 0} {g : B → Decoder A} where
  -- nothing more in front
  pub ends : {d : Decoder A} {b : B} → ((s : List ℕ) → d s ≡ g b s) → Splits g d (return b)
  ends f = record { at = f }

  -- the same decoder in front of both
  pub first : {C : Type 0} (d : Decoder C) {e : C → Decoder A} {k : C → Decoder B} → ((c : C) → Splits g (e c) (k c)) → Splits g (d >>= e) (d >>= k)
  first {C} d {e} {k} f = record { at = λ s. go (d s) }
    where
      go : (x : Decoded C) → and_then x e ≡ and_then (and_then x k) g
      go (ok c t) = (f c).at t
      go (no r) = refl

  -- one decoder, and what it builds
  pub one : {C : Type 0} (d : Decoder C) {e : C → Decoder A} (h : C → B) → ((c : C) (s : List ℕ) → e c s ≡ g (h c) s) → Splits g (d >>= e) (λ s. on_ok h (d s))
  one {C} d {e} h f = record { at = λ s. go (d s) }
    where
      go : (x : Decoded C) → and_then x e ≡ and_then (on_ok h x) g
      go (ok c t) = f c t
      go (no r) = refl

  -- one of two, and one of a list
  pub either : (b : Bool) {d e : Decoder A} {h k : Decoder B} → Splits g d h → Splits g e k → Splits g (cond b d e) (cond b h k)
  either true p q = p
  either false p q = q

  pub at_index : {ds : List (Decoder A)} {hs : List (Decoder B)} → Each g ds hs → (i r : ℕ) → Splits g (get_or ds i (refuse r)) (get_or hs i (refuse r))
  at_index done i r = record { at = λ s. refl }
  at_index (next e es) zero r = e
  at_index (next e es) (suc i) r = at_index es i r
