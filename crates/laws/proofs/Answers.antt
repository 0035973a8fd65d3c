-- What holds of all that a decoder answers: one thing of its values, and another of the numbers of its refusals.
use mathlib.Core.Bool.{Bool, true, false, cond}
use mathlib.Core.List.{List, [], ◌∷◌}
use Prim.Native.Nat.{ℕ, zero, suc}
use lib.ListN.{get_or}
use Rattle.laws.specs.Decoded.{Decoded, ok, no, and_then, on_ok, Decoder, ◌>>=◌, return, refuse}
use Rattle.laws.proofs.Kept.{Kept}

abbrev pub Answer : {A : Type 0} → (A → Type 0) → (ℕ → Type 0) → Decoded A → Type 0
Answer P N (ok a t) = P a
Answer P N (no r) = N r

pub record Answers {A : Type 0} (P : A → Type 0) (N : ℕ → Type 0) (d : Decoder A) : Type 0 where
  pub at : (s : List ℕ) → Answer P N (d s)

-- so does each of a list
pub data Each {A : Type 0} (P : A → Type 0) (N : ℕ → Type 0) : List (Decoder A) → Type 0 where
  done : Each P N []
  next : {d : Decoder A} {ds : List (Decoder A)} → Answers P N d → Each P N ds → Each P N (d ∷ ds)

module _ {A : Type 0} {P : A → Type 0} {N : ℕ → Type 0} where
  pub ends : {a : A} → P a → Answers P N (return a)
  ends p = record { at = λ s. p }

  pub refuses : {r : ℕ} → N r → Answers P N (refuse r)
  refuses n = record { at = λ s. n }

  -- behind a first decoder
  pub with : {C : Type 0} {Q : C → Type 0} {d : Decoder C} {f : C → Decoder A} → Answers Q N d → ((c : C) → Q c → Answers P N (f c)) → Answers P N (d >>= f)
  with {C} {Q} {d} {f} q h = record { at = λ s. go (d s) (q.at s) }
    where
      go : (x : Decoded C) → Answer Q N x → Answer P N (and_then x f)
      go (ok c t) p = (h c p).at t
      go (no r) p = p

  -- a value changed
  pub changed : {C : Type 0} {Q : C → Type 0} {d : Decoder C} (f : C → A) → Answers Q N d → ((c : C) → Q c → P (f c)) → Answers P N (λ s. on_ok f (d s))
  changed {C} {Q} {d} f q h = record { at = λ s. go (d s) (q.at s) }
    where
      go : (x : Decoded C) → Answer Q N x → Answer P N (on_ok f x)
      go (ok c t) p = h c p
      go (no r) p = p

  -- one of two, and one of a list
  pub either : (b : Bool) {d e : Decoder A} → Answers P N d → Answers P N e → Answers P N (cond b d e)
  either true p q = p
  either false p q = q

  pub at_index : {ds : List (Decoder A)} → Each P N ds → (i r : ℕ) → N r → Answers P N (get_or ds i (refuse r))
  at_index done i r n = refuses n
  at_index (next e es) zero r n = e
  at_index (next e es) (suc i) r n = at_index es i r n

-- what holds of the numbers alone is kept however decoders are put together
pub answers_kept : {N : ℕ → Type 0} → Kept (λ A d. Answers (λ (a : A). Unit {0}) N d) N
answers_kept = record { ends = λ a. ends tt; refuses = λ n. refuses n; then = λ p q. with p (λ a h. q a); changed = λ f p. changed f p (λ a h. tt) }

-- of a refusal nothing need hold
abbrev pub Yields : {A : Type 0} → (A → Type 0) → Decoder A → Type 0
Yields P d = Answers P (λ r. Unit {0}) d

-- nor of a value
pub anything : {A : Type 0} (d : Decoder A) → Yields (λ (a : A). Unit {0}) d
anything {A} d = record { at = λ s. go (d s) }
  where
    go : (x : Decoded A) → Answer (λ (a : A). Unit {0}) (λ r. Unit {0}) x
    go (ok a t) = tt
    go (no r) = tt

pub behind : {A C : Type 0} {P : A → Type 0} (d : Decoder C) {f : C → Decoder A} → ((c : C) → Yields P (f c)) → Yields P (d >>= f)
behind d h = with (anything d) (λ c p. h c)
