-- What a decoder leaves is what the bytes end with, and a text that it finds stands in them, however decoders are put together.
use Rattle.laws.proofs.Prelude.{◌≡◌, sym, ap, ◌∙◌, Bool, true, false, cond, List, [], ◌∷◌, Option, ℕ, zero, suc, get_or}
use Rattle.std.specs.Prelude.{None}
use Rattle.laws.specs.{Codec.IfThere, code.Among.EndOf, code.Among.PartOf}
use Rattle.laws.specs.Decoded.{ok, on_ok, Decoder, ◌>>=◌, ◌>>◌, return, refuse, require}
use Rattle.laws.proofs.{Among.end_further, Among.part_if_further, Decoding.refused, Decoding.then_ok, Decoding.on_ok_ok, Kept.Kept}

-- an end of the bytes is left
pub record Leaves {A : Type 0} (d : Decoder A) : Type 0 where
  pub left : (s : List ℕ) {a : A} {t : List ℕ} → d s ≡ ok a t → EndOf t s

pub leaves_kept : {N : ℕ → Type 0} → Kept (λ A d. Leaves d) N
leaves_kept =
    record {
      ends = λ a. record { left = λ s e. record { front = []; among = cc } };
      refuses = λ n. record { left = λ s e. absurd (refused e) };
      then = λ {A} {B} {d} {e} p q. record { left = λ s h. behind p q s (then_ok (d s) e h) };
      changed = λ {A} {B} {d} f p. record { left = λ s e. p.left s ((on_ok_ok f (d s) e).1) };
    }
  where
    behind : {A B : Type 0} {d : Decoder A} {f : A → Decoder B} → Leaves d → ((a : A) → Leaves (f a)) → (s : List ℕ) {b : B} {t : List ℕ}
        → (a : A) × (u : List ℕ) × (d s ≡ ok a u) × (f a u ≡ ok b t) → EndOf t s
    behind p q s (a, u, x, y) = end_further (p.left s x) ((q a).left u y)

-- and the text that the value holds, if any, stands in the bytes
pub record Finds {A : Type 0} (held : A → Option (List ℕ)) (d : Decoder A) : Type 0 where
  pub left : (s : List ℕ) {a : A} {t : List ℕ} → d s ≡ ok a t → EndOf t s
  pub found : (s : List ℕ) {a : A} {t : List ℕ} → d s ≡ ok a t → IfThere (λ x. PartOf x s) (held a)

-- so does each of a list
pub data Each {A : Type 0} (held : A → Option (List ℕ)) : List (Decoder A) → Type 0 where
  done : Each held []
  next : {d : Decoder A} {ds : List (Decoder A)} → Finds held d → Each held ds → Each held (d ∷ ds)

-- nothing is held
holds_none : (s : List ℕ) {o : Option (List ℕ)} → o ≡ None → IfThere (λ x. PartOf x s) o
holds_none s e = rw e tt

module _ {A : Type 0} {held : A → Option (List ℕ)} where
  pub ends : (a : A) → held a ≡ None → Finds held (return a)
  ends a none = record { left = λ s e. record { front = []; among = cc }; found = λ s {a = b} e. let same : a ≡ b = cc in holds_none s (rw same at none) }

  pub refuses : (r : ℕ) → Finds held (refuse r)
  refuses r = record { left = λ s e. absurd (refused e); found = λ s e. absurd (refused e) }

  -- behind a test
  pub test : (b : Bool) (r : ℕ) {d : Decoder A} → Finds held d → Finds held (require b r >> d)
  test true r p = p
  test false r p = refuses r

  -- one of two, and one of a list
  pub either : (b : Bool) {d e : Decoder A} → Finds held d → Finds held e → Finds held (cond b d e)
  either true p q = p
  either false p q = q

  pub at_index : {ds : List (Decoder A)} → Each held ds → (i r : ℕ) → Finds held (get_or ds i (refuse r))
  at_index done i r = refuses r
  at_index (next p ps) zero r = p
  at_index (next p ps) (suc i) r = at_index ps i r

  module _ {B : Type 0} {d : Decoder B} where
    -- behind another
    pub then : {e : B → Decoder A} → Leaves d → ((b : B) → Finds held (e b)) → Finds held (d >>= e)
    then {e} p q =
        record {
          left = λ s h. let (b, u, x, y) = then_ok (d s) e h in end_further (p.left s x) ((q b).left u y);
          found = λ s {a} h. let (b, u, x, y) = then_ok (d s) e h in part_if_further (p.left s x) (held a) ((q b).found u y);
        }

    -- what is made of a value without a text, and of one that holds the same
    pub made : (f : B → A) → Leaves d → ((b : B) → held (f b) ≡ None) → Finds held (λ s. on_ok f (d s))
    made f p none =
        record {
          left = λ s h. p.left s ((on_ok_ok f (d s) h).1);
          found = λ s {a} h. let (b, x, same) = on_ok_ok f (d s) h in holds_none s (ap held (sym same) ∙ none b);
        }

    pub changed : {inner : B → Option (List ℕ)} (f : B → A) → Finds inner d → ((b : B) → held (f b) ≡ inner b) → Finds held (λ s. on_ok f (d s))
    changed f p same =
        record {
          left = λ s h. p.left s ((on_ok_ok f (d s) h).1);
          found = λ s {a} h. let (b, x, is) = on_ok_ok f (d s) h in rw (ap held (sym is) ∙ same b) (p.found s x);
        }

    pub built : {inner : B → Option (List ℕ)} (f : B → A) → Finds inner d → ((b : B) → held (f b) ≡ inner b) → Finds held (d >>= λ b. return (f b))
    built f p same =
        record {
          left = λ s {t = t} h. let (b, u, x, y) = then_ok (d s) (λ b. return (f b)) h in let e : u ≡ t = cc in rw e at (p.left s x);
          found = λ s {a} h.
              let (b, u, x, y) = then_ok (d s) (λ b. return (f b)) h in
              let is : a ≡ f b = cc in
              rw (ap held is ∙ same b) (p.found s x);
        }
