-- Decoders that judge from the front: bytes that follow change no value and no refusal but 2, for which more bytes were needed.
use mathlib.Core.{Path.◌≡◌, Path.refl, List.List, List.◌++◌}
use mathlib.Core.Logic.{◌⊎◌, inl, inr}
use Prim.Native.Nat.{ℕ}
use Rattle.laws.specs.Decoded.{Decoded, ok, no, and_then, on_ok, Decoder}
use Rattle.laws.proofs.Kept.{Kept}

-- an answer, and the answer where the bytes u follow: the same value with more left, or the same refusal unless it is 2
abbrev pub Followed : {A : Type 0} → List ℕ → Decoded A → Decoded A → Type 0
Followed u (ok a t) y = y ≡ ok a (t ++ u)
Followed u (no r) y = (r ≡ 2) ⊎ (y ≡ no r)

pub record Steady {A : Type 0} (d : Decoder A) : Type 0 where
  pub followed : (s u : List ℕ) → Followed u (d s) (d (s ++ u))

-- however they are put together
pub steady_kept : {N : ℕ → Type 0} → Kept (λ A d. Steady d) N
steady_kept =
    record {
      ends = λ a. record { followed = λ s u. refl };
      refuses = λ n. record { followed = λ s u. inr refl };
      then = λ {A} {B} {d} {e} p q. record { followed = λ s u. behind e q u (d s) (d (s ++ u)) (p.followed s u) };
      changed = λ {A} {B} {d} f p. record { followed = λ s u. change f u (d s) (d (s ++ u)) (p.followed s u) };
    }
  where
    behind : {A B : Type 0} (e : A → Decoder B) → ((a : A) → Steady (e a)) → (u : List ℕ) (x y : Decoded A) → Followed u x y
        → Followed u (and_then x e) (and_then y e)
    behind e q u (ok a t) y h = rw h ((q a).followed t u)
    behind e q u (no r) y (inl two) = inl two
    behind e q u (no r) y (inr h) = inr (rw h)

    change : {A B : Type 0} (f : A → B) (u : List ℕ) (x y : Decoded A) → Followed u x y → Followed u (on_ok f x) (on_ok f y)
    change f u (ok a t) y h = rw h
    change f u (no r) y (inl two) = inl two
    change f u (no r) y (inr h) = inr (rw h)
