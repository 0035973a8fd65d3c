-- The code point of the first bytes of a text: that of the encoding of p is p.
use Rattle.laws.proofs.Prelude.{◌≡◌, refl, List, ◌++◌, ℕ, ◌+◌, ◌*◌, ◌/◌, ◌%◌, ◌≤◌, ◌<◌, arith, ltb, length, ltb-true}
use Rattle.laws.proofs.Prelude.{ltb-false}
use Rattle.std.proofs.lemmas.Bool.{cond_both}
use Rattle.text.specs.Utf8.{code_by}
use Rattle.text.specs.Encode.{encode1, encode2, encode3, encode4, encode}

-- what holds of the bytes of each length holds of the encoding
pub by_length : (P : List ℕ → Type 0) (p : ℕ) → (p < 0x80 → P (encode1 p)) → (0x80 ≤ p → p < 0x800 → P (encode2 p))
    → (0x800 ≤ p → p < 0x10000 → P (encode3 p)) → (0x10000 ≤ p → P (encode4 p)) → P (encode p)
unfolding encode
by_length P p f g h k =
    cond_both (ltb p 0x80) _ _ P (λ t. f (ltb-true p 0x80 t)) λ a.
    cond_both (ltb p 0x800) _ _ P (λ t. g (ltb-false p 0x80 a) (ltb-true p 0x800 t)) λ b.
    cond_both (ltb p 0x10000) _ _ P (λ t. h (ltb-false p 0x800 b) (ltb-true p 0x10000 t)) λ c. k (ltb-false p 0x10000 c)

pub nonempty : (p : ℕ) → 0 < length (encode p)
nonempty p = by_length (λ bs. 0 < length bs) p (λ l. omega arith) (λ l h. omega arith) (λ l h. omega arith) (λ l. omega arith)

-- a code point, encoded and read back
pub round : (p : ℕ) → p ≤ 0x10FFFF → (rest : List ℕ) → code_by (length (encode p)) (encode p ++ rest) ≡ p
unfolding code_by
round p b rest =
    by_length (λ bs. code_by (length bs) (bs ++ rest) ≡ p) p (λ l. refl) (λ l h. omega arith) (λ l h. omega arith) (λ l. omega (arith, high, low))
  where
    high : (0xF0 + p / 262144) % 8 * 64 + (0x80 + p / 4096 % 64) % 64 ≡ p / 4096
    high = omega arith

    low : p / 4096 * 4096 + (0x80 + p / 64 % 64) % 64 * 64 + (0x80 + p % 64) % 64 ≡ p
    low = omega arith
