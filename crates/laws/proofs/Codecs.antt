-- Codecs of fields one after the other, from those of the fields.
use mathlib.Core.Path.{◌≡◌, refl, sym, ap, ◌∙◌}
use mathlib.Core.Logic.{◌⊎◌, inl, inr, ⊎_elim}
use mathlib.Core.Bool.{Bool, true, false, cond}
use mathlib.Core.List.{List, [], ◌++◌, append_assoc, append-nil}
use Prim.Native.Nat.{ℕ}
use Rattle.laws.specs.Decoded.{ok, on_ok, Decoder, ◌>>=◌, ◌>>◌, return, require}
use Rattle.laws.specs.Codec.{Codec}
use Rattle.laws.proofs.Decoding.{then_ok, on_ok_ok, require_ok}

-- a codec of what is built from fields: valid fields are decoded from their bytes, whatever follows them; what is decoded is built from valid fields, and stood
-- there as their bytes
pub record Built {A B : Type 0} (decode : Decoder B) (build : A → B) (encode : A → List ℕ) (Valid : A → Type 0) : Type 0 where
  pub complete : (a : A) → Valid a → (t : List ℕ) → decode (encode a ++ t) ≡ ok (build a) t
  pub sound : (s : List ℕ) (b : B) (t : List ℕ) → decode s ≡ ok b t → (a : A) × (build a ≡ b) × (s ≡ encode a ++ t) × Valid a

-- no field is left
pub built_return : {B : Type 0} (b : B) → Built (return b) (λ (u : Unit {0}). b) (λ u. []) (λ u. Unit {0})
built_return b = record { complete = λ u v t. refl; sound = λ s c t e. (tt, cc, cc, tt) }

-- one field, changed
module _ {A B : Type 0} {d : Decoder A} {encode : A → List ℕ} {Valid : A → Type 0} where
  pub built_map : (f : A → B) → Codec d encode Valid → Built (λ s. on_ok f (d s)) f encode Valid
  built_map f k =
      record {
        complete = λ a v t. rw (k.complete a v t);
        sound = λ s b t e.
            let (a, p, q) = on_ok_ok f (d s) e in
            let (i, v) = k.sound s a t p in
            (a, q, i, v);
      }

-- a field, and then others, which may depend on it and on that it is valid
module _ {A B : Type 0} {C : A → Type 0} {d : Decoder A} {encode : A → List ℕ} {Valid : A → Type 0}
    {e : A → Decoder B} {build : (a : A) → C a → B} {rest : (a : A) → C a → List ℕ} {ValidRest : (a : A) → C a → Type 0} (k : Codec d encode Valid) where
  pub built_given : ((a : A) → Valid a → Built (e a) (build a) (rest a) (ValidRest a))
      → Built (d >>= e) (λ (p : (a : A) × C a). build p.0 p.1) (λ p. encode p.0 ++ rest p.0 p.1) (λ p. Valid p.0 × ValidRest p.0 p.1)
  built_given f =
      record {
        complete = λ (a, c) v t.
            rw (append_assoc (encode a) (rest a c) t, k.complete a v.0 (rest a c ++ t)) ((f a v.0).complete c v.1 t);
        sound = λ s b t q.
            let (a, u, x, y) = then_ok (d s) e q in
            let (i, v) = k.sound s a u x in
            let (c, p, j, w) = (f a v).sound u b t y in
            ((a, c), p, i ∙ ap (encode a ++◌) j ∙ sym (append_assoc (encode a) (rest a c) t), (v, w));
      }

  pub built_then : ((a : A) → Built (e a) (build a) (rest a) (ValidRest a))
      → Built (d >>= e) (λ (p : (a : A) × C a). build p.0 p.1) (λ p. encode p.0 ++ rest p.0 p.1) (λ p. Valid p.0 × ValidRest p.0 p.1)
  built_then f = built_given (λ a v. f a)

-- a test, and then fields
module _ {A B : Type 0} {d : Decoder B} {build : A → B} {encode : A → List ℕ} {Valid : A → Type 0} where
  pub built_require : (b : Bool) (r : ℕ) → Built d build encode Valid → Built (require b r >> d) build encode (λ a. (b ≡ true) × Valid a)
  built_require b r k =
      record {
        complete = λ a v t. rw v.0 (k.complete a v.1 t);
        sound = λ s c t e.
            let (h, q) = require_ok b r s (λ u. d) e in
            let (a, p, i, v) = k.sound s c t q in
            (a, p, i, (h, v));
      }

-- a flag, and then fields of one kind where it is set, of another where it is not
module _ {A A' B : Type 0} {d : Decoder Bool} {flag : Bool → List ℕ} {e e' : Decoder B} {build : A → B} {build' : A' → B}
    {encode : A → List ℕ} {encode' : A' → List ℕ} {Valid : A → Type 0} {Valid' : A' → Type 0}
    (f : Codec d flag (λ b. Unit {0})) (k : Built e build encode Valid) (k' : Built e' build' encode' Valid') where
  abbrev either : A ⊎ A' → List ℕ
  either = ⊎_elim (λ a. flag true ++ encode a) (λ a. flag false ++ encode' a)

  behind : (x : Bool) (u : List ℕ) (b : B) (t : List ℕ) → cond x e e' u ≡ ok b t
      → (p : A ⊎ A') × (⊎_elim build build' p ≡ b) × (flag x ++ u ≡ either p ++ t) × ⊎_elim Valid Valid' p
  behind true u b t q =
      let (a, p, i, v) = k.sound u b t q in
      (inl a, p, ap (flag true ++◌) i ∙ sym (append_assoc (flag true) (encode a) t), v)
  behind false u b t q =
      let (a, p, i, v) = k'.sound u b t q in
      (inr a, p, ap (flag false ++◌) i ∙ sym (append_assoc (flag false) (encode' a) t), v)

  pub built_if : Built (d >>= λ b. cond b e e') (⊎_elim build build') (⊎_elim (λ a. flag true ++ encode a) (λ a. flag false ++ encode' a)) (⊎_elim Valid Valid')
  built_if =
      record {
        complete = elim [
          | inl a ↦ λ v t. rw (append_assoc (flag true) (encode a) t, f.complete true tt (encode a ++ t)) (k.complete a v t)
          | inr a ↦ λ v t. rw (append_assoc (flag false) (encode' a) t, f.complete false tt (encode' a ++ t)) (k'.complete a v t)
        ];
        sound = λ s b t q.
            let (x, u, y, z) = then_ok (d s) (λ b. cond b e e') q in
            rw (f.sound s x u y).0 (behind x u b t z);
      }

-- what is built has a codec of its own, if each of its valid values is built from valid fields, and what these build is valid and has their bytes
module _ {A B : Type 0} {d : Decoder B} {build : A → B} {encode : A → List ℕ} {Valid : A → Type 0} {encode_b : B → List ℕ} {ValidB : B → Type 0} where
  pub codec_of : Built d build encode Valid
      → ((b : B) → ValidB b → (a : A) × (build a ≡ b) × Valid a)
      → ((a : A) → Valid a → (encode a ≡ encode_b (build a)) × ValidB (build a))
      → Codec d encode_b ValidB
  codec_of k fields whole =
      record {
        complete = λ b v t.
            let (a, p, w) = fields b v in
            rw (← p, ← (whole a w).0) (k.complete a w t);
        sound = λ s b t e.
            let (a, p, i, v) = k.sound s b t e in
            rw (← p, ← (whole a v).0) (i, (whole a v).1);
      }

module _ {A : Type 0} {d : Decoder A} {encode : A → List ℕ} {Valid : A → Type 0} (k : Codec d encode Valid) where
  -- the valid values in other words
  pub codec_as : {Valid' : A → Type 0} → ((a : A) → Valid' a → Valid a) → ((a : A) → Valid a → Valid' a) → Codec d encode Valid'
  codec_as from to =
      record {
        complete = λ a v. k.complete a (from a v);
        sound = λ s a t e. let (i, v) = k.sound s a t e in (i, to a v);
      }

  -- a value that is tested
  pub tested : (test : A → Bool) (r : ℕ) → Codec (d >>= λ a. require (test a) r >> return a) encode (λ a. Valid a × (test a ≡ true))
  tested test r =
      codec_of (built_then k (λ a. built_require (test a) r (built_return a)))
      (λ a v. ((a, tt), refl, (v.0, (v.1, tt))))
      (λ p v. (append-nil (encode p.0), (v.0, v.1.0)))

  -- the last field
  pub built_end : {B : Type 0} (f : A → B) → Built (d >>= λ a. return (f a)) f encode Valid
  built_end f =
      record {
        complete = λ a v t. rw (k.complete a v t);
        sound = λ s b t e.
            let (a, u, x, e) = then_ok (d s) (λ a. return (f a)) e in
            let (i, v) = k.sound s a u x in
            (a, cc, cc, v);
      }

-- a field of which nothing is asked, and then others
module _ {A B : Type 0} {C : A → Type 0} {d : Decoder A} {encode : A → List ℕ}
    {e : A → Decoder B} {build : (a : A) → C a → B} {rest : (a : A) → C a → List ℕ} {ValidRest : (a : A) → C a → Type 0}
    (k : Codec d encode (λ a. Unit {0})) (f : (a : A) → Built (e a) (build a) (rest a) (ValidRest a)) where
  pub built_free : Built (d >>= e) (λ (p : (a : A) × C a). build p.0 p.1) (λ p. encode p.0 ++ rest p.0 p.1) (λ p. ValidRest p.0 p.1)
  built_free =
      record {
        complete = λ p v t. (built_then k f).complete p (tt, v) t;
        sound = λ s b t q. let (p, e, i, v) = (built_then k f).sound s b t q in (p, e, i, v.1);
      }

-- what holds of each two fields holds of the pair
pub each : {A : Type 0} {C : A → Type 0} (P : ((a : A) × C a) → Type 0) → ((a : A) (c : C a) → P (a, c)) → (p : (a : A) × C a) → P p
each P f p = f p.0 p.1
