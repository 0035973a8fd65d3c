-- A number's groups are decoded to it, and nothing else is.
use Rattle.laws.proofs.Prelude.{◌≡◌, refl, sym, ap, ◌∙◌, Bool, true, false, cond, ◌||◌, or-true, List, [], ◌∷◌, ◌++◌, ℕ, zero, suc, ◌+◌, ◌-◌, ◌*◌, ◌/◌, ◌%◌}
use Rattle.laws.proofs.Prelude.{◌≤◌, ◌<◌, arith, leb, ltb, ltb-true, ltb-false, leb-true, lt-ltb, le-ltb, le-leb, lt-leb}
use Prim.Native.Nat.{◌^◌}
use native.Mathlib.Nat.{mul-add, mul_assoc, div-add-mod, add-sub_cancel_left, one-le-pow}
use Rattle.laws.specs.Decoded.{ok, ◌>>◌, return, require}
use Rattle.laws.{specs.Codec.Codec, proofs.Decoding.refused, proofs.Decoding.require_ok, proofs.Codecs.Built, proofs.Codecs.codec_of}
use Rattle.wire.specs.Fields.{byte}
use Rattle.wire.specs.Number.{largest, last_group, groups, number, encode_groups, encode_number}

-- n fits so many groups, above those that make up `low`: it is in its shortest form, and the number is not above the largest
abbrev Fit : ℕ → ℕ → ℕ → ℕ → Type 0
Fit k scale low n = (n < 128 ^ k) × ((leb scale 1 || ltb 0 n) ≡ true) × (low + scale * n ≤ largest)

abbrev Groups : ℕ → ℕ → ℕ → Type 0
Groups k scale low = Built (groups k scale low) (λ n. low + scale * n) (encode_groups k) (Fit k scale low)

-- a group r, and q above it
regroup : (scale low q r : ℕ) → low + scale * (128 * q + r) ≡ low + scale * r + scale * 128 * q
regroup scale low q r = omega (arith, mul-add scale (128 * q) r, mul_assoc scale 128 q)

-- one group more
module _ (k scale low : ℕ) (p : 0 < scale) (above : (low : ℕ) → Groups k (scale * 128) low) where
  written : (n : ℕ) → Fit (suc k) scale low n → (t : List ℕ) → groups (suc k) scale low (encode_groups (suc k) n ++ t) ≡ ok (low + scale * n) t
  unfolding groups encode_groups last_group byte
  written n f t = by_size (ltb n 128) refl
    where
      by_size : (b : Bool) → ltb n 128 ≡ b → groups (suc k) scale low (encode_groups (suc k) n ++ t) ≡ ok (low + scale * n) t
      by_size true e =
          let small : n < 256 = omega (arith, ltb-true n 128 e) in
          rw (e, lt-ltb n 256 small, f.1, le-leb (low + scale * n) largest f.2, e)
      by_size false e =
          let q = n / 128 in
          let r = n % 128 in
          let large : 128 ≤ n = ltb-false n 128 e in
          let same : low + scale * n ≡ low + scale * r + scale * 128 * q = ap (λ m. low + scale * m) (sym (div-add-mod n 128)) ∙ regroup scale low q r in
          let fit : Fit k (scale * 128) (low + scale * r) q = (omega arith, rw (lt-leb (scale * 128) 1 (omega arith), lt-ltb 0 q (omega arith)), omega arith) in
          rw (e, lt-ltb (128 + r) 256 (omega arith), le-ltb (128 + r) 128 (omega arith), add-sub_cancel_left 128 r, same)
          ((above (low + scale * r)).complete q fit t)

  abbrev Read : List ℕ → ℕ → List ℕ → Type 0
  Read s v t = (n : ℕ) × (low + scale * n ≡ v) × (s ≡ encode_groups (suc k) n ++ t) × Fit (suc k) scale low n

  read_last : (b : ℕ) → ltb b 128 ≡ true → (s : List ℕ) (v : ℕ) (t : List ℕ) → last_group scale low b s ≡ ok v t → Read (b ∷ s) v t
  unfolding encode_groups last_group
  read_last b e s v t q =
      let n = low + scale * b in
      let (shortest, q) = require_ok (leb scale 1 || ltb 0 b) 2 s (λ u. require (leb n largest) 2 >> return n) q in
      let (small, q) = require_ok (leb n largest) 2 s (λ u. return n) q in
      (b, cc, rw e (cc), (omega (arith, ltb-true b 128 e, one-le-pow k 128 (omega arith)), shortest, leb-true n largest small))

  read_more : (b : ℕ) → b < 256 → 128 ≤ b → (s : List ℕ) (v : ℕ) (t : List ℕ)
      → groups k (scale * 128) (low + scale * (b - 128)) s ≡ ok v t
      → Read (b ∷ s) v t
  unfolding encode_groups
  read_more b small large s v t e =
      let (q, w, i, f) = (above (low + scale * (b - 128))).sound s v t e in
      let n = 128 * q + (b - 128) in
      let value = regroup scale low q (b - 128) in
      let some : 0 < q = ltb-true 0 q (rw (lt-leb (scale * 128) 1 (omega arith)) at f.1) in
      let group : 128 + n % 128 ≡ b = omega arith in
      let rest : n / 128 ≡ q = omega arith in
      let shortest : (leb scale 1 || ltb 0 n) ≡ true = rw (lt-ltb 0 n (omega arith), or-true (leb scale 1)) in
      (n, value ∙ w, rw (le-ltb n 128 (omega arith), group, rest) (ap (b ∷◌) i), (omega (arith, f.0), shortest, rw value f.2))

  read : (s : List ℕ) (v : ℕ) (t : List ℕ) → groups (suc k) scale low s ≡ ok v t → Read s v t
  unfolding groups byte
  read [] v t e = absurd (refused e)
  read (b ∷ s) v t e =
      let (small, q) = require_ok (ltb b 256) 2 s (λ u. cond (ltb b 128) (last_group scale low b) (groups k (scale * 128) (low + scale * (b - 128)))) e in
      by_size (ltb b 128) refl (ltb-true b 256 small) q
    where
      by_size : (c : Bool) → ltb b 128 ≡ c → b < 256
          → cond c (last_group scale low b) (groups k (scale * 128) (low + scale * (b - 128))) s ≡ ok v t
          → Read (b ∷ s) v t
      by_size true h small q = read_last b h s v t q
      by_size false h small q = read_more b small (ltb-false b 128 h) s v t q

groups_built : (k scale low : ℕ) → 0 < scale → 1 < scale + k → Groups k scale low
unfolding groups
groups_built zero scale low p h =
    record {
      complete = λ n f t. absurd (omega (arith, f.0, ltb-true 0 n (rw (lt-leb scale 1 (omega arith)) at f.1)));
      sound = λ s v t e. absurd (refused e);
    }
groups_built (suc k) scale low p h =
    let above : (low : ℕ) → Groups k (scale * 128) low = λ m. groups_built k (scale * 128) m (omega arith) (omega arith) in
    record { complete = written k scale low p above; sound = read k scale low p above }

pub number_codec : Codec number encode_number (λ n. n ≤ largest)
unfolding number encode_number
number_codec =
    codec_of (groups_built 5 1 0 (omega arith) (omega arith))
    (λ n v. (n, omega arith, (omega arith, refl, omega arith)))
    (λ n f. let same : n ≡ 0 + 1 * n = omega arith in (ap (encode_groups 5) same, f.2))
