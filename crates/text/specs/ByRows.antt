-- Character lengths by the rows of the table: what each row admits, which code points the rows have, and what is read by them.
use Rattle.std.specs.Prelude.{◌≡◌, cond, true, List, [], ◌∷◌, ◌++◌, ℕ, ◌+◌, length, drop}
use Rattle.laws.specs.Codec.{All}
use Rattle.text.specs.declared.utf8.Encoding.{Encoding}
use Rattle.text.specs.Ranges.{◌to◌, within, in_ranges}
use Rattle.text.specs.Utf8.{Row, char, never, rows}
use Rattle.text.specs.Encode.{encode, code_points, Paired, RowExact}

-- how many rows have the code point
unfoldable pub rows_with : List Row → ℕ → ℕ
rows_with [] p = 0
rows_with (char first last rs ∷ more) p = cond (within (first to last) p) 1 0 + rows_with more p
rows_with (never rs ∷ more) p = rows_with more p

-- n is the length of the character that s begins with, 0 where there is none
pub record ByRows (e : Encoding) (s : List ℕ) (n : ℕ) : Type 0 where
  -- the bytes that a row admits are exactly the encodings of its code points
  pub exact : All RowExact (rows e)
  -- each code point of the encoding has one row, and no other number has any
  pub once : (p : ℕ) → rows_with (rows e) p ≡ cond (in_ranges (code_points e) p) 1 0
  -- the encoding of a code point is read with its length, whatever follows, but for a lead surrogate right before a trail one
  pub read : (p : ℕ) (t : List ℕ) → in_ranges (code_points e) p ≡ true → s ≡ encode p ++ t → (Paired p t → ⊥) → n ≡ length (encode p)
  -- there the length is 0
  pub pair : (p : ℕ) (t : List ℕ) → s ≡ encode p ++ t → Paired p t → n ≡ 0
  -- nothing else is read
  pub only : (n ≡ 0 → ⊥) → (p : ℕ) × (in_ranges (code_points e) p ≡ true) × (s ≡ encode p ++ drop n s)
