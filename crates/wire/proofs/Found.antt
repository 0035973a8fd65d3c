-- What is left behind a field is what the bytes end with, and a text that is read stands in them.
use Rattle.laws.proofs.Prelude.{◌≡◌, sym, ap, ◌∙◌, Bool, true, false, cond, List, [], ◌∷◌, ◌++◌, append_assoc, ℕ, ◌≤◌, leb, length, take, drop}
use Rattle.std.specs.Prelude.{Some}
use Rattle.std.proofs.lemmas.List.{take-append-drop}
use Rattle.laws.specs.{Decoded.ok, Decoded.no, code.Among.EndOf}
use Rattle.laws.proofs.{Decoding.refused, Found.Leaves, Found.leaves_kept, Found.Finds}
use Rattle.text.specs.declared.utf8.Encoding.{Encoding}
use Rattle.wire.specs.Refusals as refusals
use Rattle.wire.specs.{Fields.byte, Fields.bytes, Number.largest, Number.encode_number, Text.text, Text.encode_text}
use Rattle.wire.proofs.{Kept.OfFields, TextCodec.text_codec}

pub fields_leave : OfFields (λ A d. Leaves d)
unfolding byte bytes
fields_leave =
    record {
      kept = leaves_kept;
      a_byte = record { left = a_byte };
      some_bytes = λ n. record { left = λ s e. some_bytes n s (leb n (length s)) e };
    }
  where
    a_byte : (s : List ℕ) {a : ℕ} {t : List ℕ} → byte s ≡ ok a t → EndOf t s
    a_byte [] e = absurd (refused e)
    a_byte (b ∷ s) e = record { front = b ∷ []; among = cc }

    some_bytes : (n : ℕ) (s : List ℕ) (b : Bool) {a t : List ℕ} → cond b (ok (take n s) (drop n s)) (no refusals.cut_off) ≡ ok a t → EndOf t s
    some_bytes n s true {t = t} e =
        let left : drop n s ≡ t = cc in
        record { front = take n s; among = sym (take-append-drop n s) ∙ ap (take n s ++◌) left }
    some_bytes n s false e = absurd (refused e)

pub text_found : (e : Encoding) (limit : ℕ) → limit ≤ largest → Finds Some (text e limit)
unfolding encode_text
text_found e limit h =
    record {
      left = λ s {a = x} h. record { front = encode_text x; among = stands s h };
      found = λ s {a = x} {t} h. record { before = encode_number (length x); behind = t; among = stands s h ∙ append_assoc (encode_number (length x)) x t };
    }
  where
    stands : (s : List ℕ) {x t : List ℕ} → text e limit s ≡ ok x t → s ≡ encode_text x ++ t
    stands s {x} {t} is = ((text_codec e limit h).sound s x t is).0
