-- Numbers and their bytes, and fields that are refused, as the definitions compute.
use Rattle.laws.proofs.Prelude.{◌≡◌, refl, List, [], ◌∷◌, map, ℕ}
use Rattle.laws.{specs.Decoded.ok, proofs.Decoding.refusal}
use Rattle.text.specs.declared.utf8.Encoding.TheVariants.{Utf8}
use Rattle.text.specs.Utf8.{admits, length_by, char_length, formed}
use Rattle.wire.specs.Fields.{byte, below, flag, bytes}
use Rattle.wire.specs.Number.{last_group, groups, number, encode_groups, encode_number}
use Rattle.wire.specs.Text.{count, text}

abbrev numbers : List (ℕ × List ℕ)
numbers =
    (0, 0x00 ∷ [])
    ∷ (127, 0x7F ∷ [])
    ∷ (128, 0x80 ∷ 0x01 ∷ [])
    ∷ (16383, 0xFF ∷ 0x7F ∷ [])
    ∷ (16384, 0x80 ∷ 0x80 ∷ 0x01 ∷ [])
    ∷ (4294967295, 0xFF ∷ 0xFF ∷ 0xFF ∷ 0xFF ∷ 0x0F ∷ [])
    ∷ []

abbrev written : ℕ × List ℕ → ℕ × List ℕ
written (n, s) = (n, encode_number n)

-- a text has at most two bytes here
data Field : Type 0 where
  a_number : Field
  a_flag : Field
  a_text : Field

-- a field, bytes, and the number of their refusal
abbrev Case : Type 0
Case = Field × List ℕ × ℕ

abbrev cases : List Case
cases =
    (a_number, 0x80 ∷ 0x00 ∷ [], 2)  -- not the shortest form of 0
    ∷ (a_number, 0x80 ∷ 0x80 ∷ 0x80 ∷ 0x80 ∷ 0x10 ∷ [], 2)  -- 4,294,967,296
    ∷ (a_number, 0x80 ∷ 0x80 ∷ 0x80 ∷ 0x80 ∷ 0x80 ∷ 0x01 ∷ [], 2)  -- six groups
    ∷ (a_number, 0x80 ∷ 0x80 ∷ [], 2)  -- cut off
    ∷ (a_number, [], 2)
    ∷ (a_flag, 0x02 ∷ [], 3)
    ∷ (a_text, 0x03 ∷ 0x61 ∷ 0x62 ∷ 0x63 ∷ [], 4)  -- over its limit
    ∷ (a_text, 0x02 ∷ 0x61 ∷ [], 2)  -- cut off
    ∷ (a_text, 0x02 ∷ 0xC0 ∷ 0xAF ∷ [], 5)  -- ill-formed
    ∷ []

abbrev judged : Case → Case
judged (a_number, s, r) = (a_number, s, refusal (number s))
judged (a_flag, s, r) = (a_flag, s, refusal (flag s))
judged (a_text, s, r) = (a_text, s, refusal (text Utf8 2 s))

as_stated : (map written numbers ≡ numbers)
    × (map (λ c. number c.1) numbers ≡ map (λ c. ok c.0 []) numbers)
    × (map judged cases ≡ cases)
unfolding byte below flag bytes last_group groups number encode_groups encode_number count text admits length_by char_length formed
as_stated = (refl, refl, refl)
