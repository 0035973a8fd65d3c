-- Values by their numbers.
use Rattle.laws.proofs.Prelude.{◌≡◌, refl, sym, ap, ◌∙◌, Bool, true, false, List, [], ◌∷◌, ◌++◌, map, ℕ, zero, suc, ◌+◌, ◌≤◌, ◌<◌, arith, leb, length, get_or}
use Rattle.laws.proofs.Prelude.{get_or-eq_default, leb-true, leb-false}
use Rattle.laws.{specs.Codec.Codec, proofs.Codecs.built_end, proofs.Codecs.codec_of}
use Rattle.wire.specs.Fields.{Values, value_of, numbered}
use Rattle.wire.proofs.TextCodec.{below_codec}

-- each value has a number, and these are in order from 0 on
pub record Numbers {A : Type 0} (number : A → ℕ) (values : Values A) : Type 0 where
  pub few : (a : A) → number a < suc (length values.front)
  pub back : (a : A) → value_of values (number a) ≡ a
  pub forth : (n : ℕ) → n < suc (length values.front) → number (value_of values n) ≡ n

-- so a value is decoded from its number, and from nothing else
pub numbered_codec : {A : Type 0} {number : A → ℕ} {values : Values A} → Numbers number values → Codec (numbered values) (λ a. number a ∷ []) (λ a. Unit {0})
unfolding numbered
numbered_codec {A} {number} {values} k =
    codec_of (built_end (below_codec (suc (length values.front))) (value_of values))
    (λ a v. (number a, k.back a, k.few a))
    (λ n v. (ap (λ m. m ∷ []) (sym (k.forth n v)), tt))

-- and no two values have one number
pub one_number : {A : Type 0} {number : A → ℕ} {values : Values A} → Numbers number values → {a b : A} → number a ≡ number b → a ≡ b
one_number {values = values} k {a} {b} e = sym (k.back a) ∙ ap (value_of values) e ∙ k.back b

-- n numbers and one more, from k on
abbrev from : ℕ → ℕ → List ℕ
from k zero = k ∷ []
from k (suc n) = k ∷ from (suc k) n

module _ {A : Type 0} (number : A → ℕ) where
  -- values with these numbers
  abbrev InOrder : ℕ → List A → A → Type 0
  InOrder k l last = map number l ++ (number last ∷ []) ≡ from k (length l)

  at_number : (l : List A) (last : A) (k : ℕ) → InOrder k l last → (n : ℕ) → n ≤ length l → number (get_or l n last) ≡ n + k
  at_number [] last k h zero b = let e : number last ≡ k = cc in omega arith
  at_number [] last k h (suc n) b = absurd (omega arith)
  at_number (a ∷ l) last k h zero b = let e : number a ≡ k = cc in omega arith
  at_number (a ∷ l) last k h (suc n) b = let e : InOrder (suc k) l last = cc in omega (arith, at_number l last (suc k) e n (omega arith))

  last_number : (l : List A) (last : A) (k : ℕ) → InOrder k l last → number last ≡ length l + k
  last_number [] last k h = let e : number last ≡ k = cc in omega arith
  last_number (a ∷ l) last k h = let e : InOrder (suc k) l last = cc in omega (arith, last_number l last (suc k) e)

  pub numbers : (values : Values A) → ((a : A) → value_of values (number a) ≡ a) → InOrder 0 values.front values.last → Numbers number values
  numbers values back order =
      let l = values.front in
      let last = values.last in
      record { few = few; back = back; forth = λ n h. omega (arith, at_number l last 0 order n (omega arith)) }
    where
      few : (a : A) → number a < suc (length values.front)
      few a = by_size (leb (number a) (length values.front)) refl
        where
          by_size : (b : Bool) → leb (number a) (length values.front) ≡ b → number a < suc (length values.front)
          by_size true e = omega (arith, leb-true (number a) (length values.front) e)
          by_size false e =
              let l = values.front in
              let far = leb-false (number a) (length l) e in
              let same : values.last ≡ a = sym (get_or-eq_default l values.last (omega arith)) ∙ back a in
              omega (arith, ap number same, last_number l values.last 0 order)
