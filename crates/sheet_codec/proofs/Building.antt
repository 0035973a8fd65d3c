-- More codecs of fields one after the other.
use Rattle.laws.proofs.Prelude.{◌≡◌, refl, sym, ap, ◌∙◌, ◌⊎◌, inl, inr, ⊎_elim, Bool, true, false, cond, List, [], ◌∷◌, ◌++◌, append_assoc, ℕ, zero, suc}
use Rattle.laws.proofs.Prelude.{◌+◌, ◌≤◌, ◌<◌, zero-add, add-zero, arith, ltb, length, get_or, ltb-true, ltb-false, lt-ltb, le-ltb}
use Rattle.laws.specs.Decoded.{ok, Decoder, ◌>>=◌, return, refuse}
use Rattle.laws.{specs.Codec.Codec, proofs.Decoding.then_ok, proofs.Decoding.then_then}
use Rattle.laws.proofs.Codecs.{Built, built_then, codec_as, built_end}
use Rattle.wire.specs.Fields.{below, Values, value_of}
use Rattle.wire.{specs.Number.largest, specs.Number.encode_number, specs.Text.count, proofs.Numbered.Numbers}
use Rattle.wire.proofs.TextCodec.{below_codec, count_codec}

-- a value by its number, or the number behind the last, and what follows each
module _ {E A A' B : Type 0} {number : E → ℕ} {values : Values E} {e : E → Decoder B} {e' : Decoder B} {build : E → A → B} {build' : A' → B}
    {encode : A → List ℕ} {encode' : A' → List ℕ} {Valid : A → Type 0} {Valid' : A' → Type 0}
    (n : Numbers number values) (k : (v : E) → Built (e v) (build v) encode Valid) (k' : Built e' build' encode' Valid') where
  abbrev limit : ℕ
  limit = suc (length values.front)

  pub built_below : Built (below (suc limit) >>= λ b. cond (ltb b limit) (e (value_of values b)) e')
      (⊎_elim (λ (p : E × A). build p.0 p.1) build')
      (⊎_elim (λ p. number p.0 ∷ encode p.1) (λ a. limit ∷ encode' a))
      (⊎_elim (λ p. Valid p.1) Valid')
  built_below =
      record {
        complete = elim [
          | inl p ↦ λ v t.
              rw (
                (below_codec (suc limit)).complete (number p.0) (omega (arith, n.few p.0)) (encode p.1 ++ t),
                lt-ltb (number p.0) limit (n.few p.0),
                n.back p.0,
              )
              ((k p.0).complete p.1 v t)
          | inr a ↦ λ v t. rw ((below_codec (suc limit)).complete limit (omega arith) (encode' a ++ t), le-ltb limit limit (omega arith)) (k'.complete a v t)
        ];
        sound = λ s c t q.
            let (b, u, x, y) = then_ok (below (suc limit) s) (λ b. cond (ltb b limit) (e (value_of values b)) e') q in
            let (i, h) = (below_codec (suc limit)).sound s b u x in
            rw i (behind b h u c t (ltb b limit) refl y);
      }
    where
      behind : (b : ℕ) → b < suc limit → (u : List ℕ) (c : B) (t : List ℕ) (small : Bool) → ltb b limit ≡ small →
          cond small (e (value_of values b)) e' u ≡ ok c t
          → (p : (E × A) ⊎ A')
          × (⊎_elim (λ (p : E × A). build p.0 p.1) build' p ≡ c)
          × (b ∷ u ≡ ⊎_elim (λ (p : E × A). number p.0 ∷ encode p.1) (λ a. limit ∷ encode' a) p ++ t)
          × ⊎_elim (λ (p : E × A). Valid p.1) Valid' p
      behind b h u c t true l y =
          let (a, p, j, v) = (k (value_of values b)).sound u c t y in
          (inl (value_of values b, a), p, rw (n.forth b (ltb-true b limit l)) (ap (b ∷◌) j), v)
      behind b h u c t false l y =
          let (a, p, j, v) = k'.sound u c t y in
          let same : b ≡ limit = omega (arith, ltb-false b limit l) in
          (inr a, p, rw same (ap (limit ∷◌) j), v)

-- a count up to a limit
pub limit_codec : (limit : ℕ) → limit ≤ largest → Codec (count limit) encode_number (λ n. n ≤ limit)
limit_codec limit h = codec_as (count_codec limit) (λ n v. (v, omega arith)) (λ n v. v.0)

-- a count, and so many of a list
module _ {L : Type 0} {d : Decoder ℕ} {ValidCount : ℕ → Type 0} {many : ℕ → Decoder L} {size : L → ℕ} {encode : L → List ℕ} {Valid : L → Type 0}
    (k : Codec d encode_number ValidCount) (m : (n : ℕ) → Codec (many n) encode (λ l. (size l ≡ n) × Valid l)) where
  pub counted : Codec (d >>= many) (λ l. encode_number (size l) ++ encode l) (λ l. ValidCount (size l) × Valid l)
  counted =
      record {
        complete = λ l v t.
            rw (append_assoc (encode_number (size l)) (encode l) t, k.complete (size l) v.0 (encode l ++ t)) ((m (size l)).complete l (refl, v.1) t);
        sound = λ s l t q.
            let (n, u, x, y) = then_ok (d s) many q in
            let (i, v) = k.sound s n u x in
            let (j, w) = (m n).sound u l t y in
            rw w.0 (i ∙ ap (encode_number n ++◌) j ∙ sym (append_assoc (encode_number n) (encode l) t), (v, w.1));
      }

  -- with the fields behind it, or as the last field
  pub built_counted : {B : Type 0} {C : L → Type 0} {e : L → Decoder B} {build : (l : L) → C l → B} {rest : (l : L) → C l → List ℕ} {ValidRest : (l : L) →
      C l → Type 0}
      → ((l : L) → Built (e l) (build l) (rest l) (ValidRest l))
      → Built (d >>= λ n. many n >>= e)
      (λ (p : (l : L) × C l). build p.0 p.1)
      (λ p. (encode_number (size p.0) ++ encode p.0) ++ rest p.0 p.1)
      (λ p. (ValidCount (size p.0) × Valid p.0) × ValidRest p.0 p.1)
  built_counted {e} f =
      record {
        complete = λ p v t. sym (then_then (d _) many e) ∙ (built_then counted f).complete p v t;
        sound = λ s b t q. (built_then counted f).sound s b t (then_then (d s) many e ∙ q);
      }

  pub built_counted_end : {B : Type 0} (f : L → B)
      → Built (d >>= λ n. many n >>= λ l. return (f l)) f (λ l. encode_number (size l) ++ encode l) (λ l. ValidCount (size l) × Valid l)
  built_counted_end f =
      record {
        complete = λ l v t. sym (then_then (d _) many (λ l. return (f l))) ∙ (built_end counted f).complete l v t;
        sound = λ s b t q. (built_end counted f).sound s b t (then_then (d s) many (λ l. return (f l)) ∙ q);
      }

-- each decoder of a list has what its index asks, the first that of k
pub data Each {A : Type 0} (P : ℕ → Decoder A → Type 0) : ℕ → List (Decoder A) → Type 0 where
  done : {k : ℕ} → Each P k []
  next : {k : ℕ} {d : Decoder A} {ds : List (Decoder A)} → P k d → Each P (suc k) ds → Each P k (d ∷ ds)

module _ {A : Type 0} (P : ℕ → Decoder A → Type 0) {r : ℕ} (none : (i : ℕ) → P i (refuse r)) where
  from_index : {k : ℕ} {ds : List (Decoder A)} → Each P k ds → (i : ℕ) → P (i + k) (get_or ds i (refuse r))
  from_index {k} done i = none (i + k)
  from_index {k} (next p e) zero = rw (zero-add k) p
  from_index {k} (next p e) (suc i) = let same : suc i + k ≡ i + suc k = omega arith in rw same (from_index e i)

  pub at_index : {ds : List (Decoder A)} → Each P 0 ds → (i : ℕ) → P i (get_or ds i (refuse r))
  at_index e i = rw (add-zero i) at (from_index e i)
