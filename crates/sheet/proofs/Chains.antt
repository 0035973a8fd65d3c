-- Items one after the other, each judged by what the one before leaves.
use Rattle.laws.proofs.Prelude.{◌≡◌, refl, ap, List, [], ◌∷◌, flat_map, ℕ, zero, suc, ◌<◌, suc-le-suc, zero-le, not-suc-le-zero, le_of_suc-le-suc, arith}
use Rattle.laws.proofs.Prelude.{length, get_or}
use Rattle.laws.specs.{Decoded.Decoder, Codec.Codec}
use Rattle.laws.proofs.Codecs.{built_return, built_map, built_then, codec_of}
use Rattle.sheet.specs.Comments.{chained}

-- each item holds behind what the one before leaves
abbrev pub Chained : {A S : Type 0} → (S → A → Type 0) → (A → S) → S → List A → Type 0
Chained P leaves s [] = Unit {0}
Chained P leaves s (a ∷ l) = P s a × Chained P leaves (leaves a) l

module _ {A S : Type 0} {item : S → Decoder A} {leaves : A → S} {encode : A → List ℕ} {P : S → A → Type 0}
    (element : (s : S) → Codec (item s) encode (P s)) where
  pub chained_codec : (s : S) (k : ℕ) → Codec (chained item leaves s k) (flat_map encode) (λ l. (length l ≡ k) × Chained P leaves s l)
  unfolding chained flat_map
  chained_codec s zero =
      codec_of (built_return [])
      (elim [ [] ↦ λ v. (tt, refl, tt) | a ∷ l ↦ λ v. absurd (omega (arith, v.0)) ])
      (λ u v. (refl, (refl, tt)))
  chained_codec s (suc k) =
      codec_of (built_then (element s) (λ a. built_map (a ∷◌) (chained_codec (leaves a) k)))
      (elim [ [] ↦ λ v. absurd (omega (arith, v.0)) | a ∷ l ↦ λ v. ((a, l), refl, (v.1.0, (omega (arith, v.0), v.1.1))) ])
      (λ p v. (refl, (ap suc v.1.0, (v.0, v.1.1))))

module _ {A S : Type 0} (P : S → A → Type 0) (leaves : A → S) (d : A) where
  -- what is known of an item behind a state
  pub of_each : (Q : A → Type 0) → ((s : S) (a : A) → P s a → Q a) → (s : S) (l : List A) → Chained P leaves s l → (k : ℕ) → k < length l → Q (get_or l k d)
  of_each Q q s [] c k h = absurd (not-suc-le-zero h)
  of_each Q q s (a ∷ l) c zero h = q s a c.0
  of_each Q q s (a ∷ l) c (suc k) h = of_each Q q (leaves a) l c.1 k (le_of_suc-le-suc h)

  -- what is known of an item and the next, if it goes through, is known of an item and any later one
  module _ (R : A → A → Type 0) (next : (a b : A) → P (leaves a) b → R a b) (through : (a b c : A) → R a b → R b c → R a c) where
    later : (a : A) (l : List A) → Chained P leaves (leaves a) l → (k : ℕ) → k < length l → R a (get_or l k d)
    later a [] c k h = absurd (not-suc-le-zero h)
    later a (b ∷ l) c zero h = next a b c.0
    later a (b ∷ l) c (suc k) h = through a b (get_or l k d) (next a b c.0) (later b l c.1 k (le_of_suc-le-suc h))

    pub of_pairs : (s : S) (l : List A) → Chained P leaves s l → (j k : ℕ) → j < k → k < length l → R (get_or l j d) (get_or l k d)
    of_pairs s [] c j k i h = absurd (not-suc-le-zero h)
    of_pairs s (a ∷ l) c j zero i h = absurd (not-suc-le-zero i)
    of_pairs s (a ∷ l) c zero (suc k) i h = later a l c.1 k (le_of_suc-le-suc h)
    of_pairs s (a ∷ l) c (suc j) (suc k) i h = of_pairs (leaves a) l c.1 j k (le_of_suc-le-suc i) (le_of_suc-le-suc h)

  -- items that each hold by themselves, and of which each follows those before it
  module _ (Q : A → Type 0) (Follows : S → A → Type 0) (holds : (s : S) (a : A) → Q a → Follows s a → P s a) where
    pub chain : (s : S) (l : List A) → ((k : ℕ) → k < length l → Q (get_or l k d)) → ((k : ℕ) → k < length l → Follows s (get_or l k d))
        → ((j k : ℕ) → j < k → k < length l → Follows (leaves (get_or l j d)) (get_or l k d)) → Chained P leaves s l
    chain s [] each first pairs = tt
    chain s (a ∷ l) each first pairs = (
      holds s a (each 0 (suc-le-suc zero-le)) (first 0 (suc-le-suc zero-le)),
      chain (leaves a) l (λ k h. each (suc k) (suc-le-suc h)) (λ k h. pairs 0 (suc k) (suc-le-suc zero-le) (suc-le-suc h))
          (λ j k i h. pairs (suc j) (suc k) (suc-le-suc i) (suc-le-suc h)),
    )
