-- Bytes, flags, counts and texts are decoded from their bytes, and from nothing else.
use Rattle.laws.proofs.Prelude.{◌≡◌, refl, sym, Bool, true, false, cond, List, [], ◌∷◌, ◌++◌, append-nil, ℕ, zero, suc, ◌+◌, ◌≤◌, ◌<◌, arith, eqb, leb, ltb}
use Rattle.laws.proofs.Prelude.{length, take, drop, length-append, length-take-le, take-append_seam, drop-append_seam, ltb-true, leb-true, lt-ltb, le-leb}
use lib.ListN.{take-append-drop}
use Rattle.laws.{specs.Decoded.ok, specs.Decoded.no, specs.Codec.Codec, proofs.Decoding.refused}
use Rattle.laws.proofs.Codecs.{built_return, built_then, built_require, codec_of}
use Rattle.text.{specs.declared.utf8.Encoding.Encoding, specs.Utf8.well_formed, specs.WellFormed.WellFormed, proofs.WellFormed.well_formed_iff}
use Rattle.wire.specs.Fields.{byte, below, flag, encode_flag, bytes}
use Rattle.wire.specs.Number.{largest, encode_number}
use Rattle.wire.specs.Text.{count, text, encode_text}
use Rattle.wire.proofs.NumberCodec.{number_codec}

pub byte_codec : Codec byte (λ b. b ∷ []) (λ b. Unit {0})
unfolding byte
byte_codec = record { complete = λ b v t. refl; sound = first }
  where
    first : (s : List ℕ) (b : ℕ) (t : List ℕ) → byte s ≡ ok b t → (s ≡ b ∷ t) × Unit {0}
    first [] b t e = absurd (refused e)
    first (x ∷ s) b t e = (cc, tt)

pub below_codec : (limit : ℕ) → Codec (below limit) (λ b. b ∷ []) (λ b. b < limit)
unfolding below
below_codec limit =
    codec_of (built_then byte_codec (λ b. built_require (ltb b limit) 3 (built_return b)))
    (λ b h. ((b, tt), refl, (tt, (lt-ltb b limit h, tt))))
    (λ p v. (refl, ltb-true p.0 limit v.1.0))

pub flag_codec : Codec flag encode_flag (λ b. Unit {0})
unfolding flag
flag_codec =
    codec_of (built_then (below_codec 2) (λ b. built_return (eqb b 1)))
    (elim [ true ↦ λ v. ((1, tt), refl, (omega arith, tt)) | false ↦ λ v. ((0, tt), refl, (omega arith, tt)) ])
    (λ p v. (bit p.0 v.0, tt))
  where
    bit : (n : ℕ) → n < 2 → n ∷ [] ≡ encode_flag (eqb n 1)
    bit zero h = refl
    bit (suc zero) h = refl
    bit (suc (suc n)) h = absurd (omega arith)

pub count_codec : (limit : ℕ) → Codec (count limit) encode_number (λ n. (n ≤ limit) × (n ≤ largest))
unfolding count
count_codec limit =
    codec_of (built_then number_codec (λ n. built_require (leb n limit) 4 (built_return n)))
    (λ n v. ((n, tt), refl, (v.1, (le-leb n limit v.0, tt))))
    (λ p v. (append-nil (encode_number p.0), (leb-true p.0 limit v.1.0, v.0)))

pub bytes_codec : (n : ℕ) → Codec (bytes n) (λ x. x) (λ x. length x ≡ n)
unfolding bytes
bytes_codec n =
    record {
      complete = λ x h t. rw (← h, length-append x t, le-leb (length x) (length x + length t) (omega arith), take-append_seam x t, drop-append_seam x t);
      sound = λ s x t e. cut s x t (leb n (length s)) refl e;
    }
  where
    cut : (s x t : List ℕ) (b : Bool) → leb n (length s) ≡ b → cond b (ok (take n s) (drop n s)) (no 2) ≡ ok x t → (s ≡ x ++ t) × (length x ≡ n)
    cut s x t true h e =
        let p : take n s ≡ x = cc in
        let q : drop n s ≡ t = cc in
        rw (← p, ← q) (sym (take-append-drop n s), length-take-le n s (leb-true n (length s) h))
    cut s x t false h e = absurd (refused e)

pub text_codec : (e : Encoding) (limit : ℕ) → limit ≤ largest → Codec (text e limit) encode_text (λ x. (length x ≤ limit) × WellFormed e x)
unfolding text encode_text
text_codec e limit h =
    codec_of (built_then (count_codec limit) (λ n. built_then (bytes_codec n) (λ x. built_require (well_formed e x) 5 (built_return x))))
    (λ x v. ((length x, (x, tt)), refl, ((v.0, omega (arith, v.0)), (refl, ((well_formed_iff e x).1 v.1, tt)))))
    (λ p v. (rw (append-nil p.1.0, v.1.0), (omega (arith, v.0.0, v.1.0), (well_formed_iff e p.1.0).0 v.1.1.0)))
