-- UTF-8 by the rows of Unicode's table of well-formed byte sequences (table 3-7), and WTF-8, which has the surrogates besides.
use Rattle.std.specs.Prelude.{Bool, true, false, cond, ◌&&◌, List, [], ◌∷◌, ◌++◌, ℕ, zero, suc, ◌+◌, ◌*◌, ◌%◌, eqb, length, get_or}
use Rattle.text.specs.Ranges.{Range, ◌to◌, within}
use Rattle.text.specs.declared.utf8.Char.{Char}
use Rattle.text.specs.declared.utf8.Encoding.{Encoding}
use Rattle.text.specs.declared.utf8.Encoding.TheVariants.{Utf8, Wtf8}

-- the text begins with a byte of each range, one after the other
unfoldable pub admits : List Range → List ℕ → Bool
admits [] s = true
admits (r ∷ rs) [] = false
admits (r ∷ rs) (x ∷ s) = within r x && admits rs s

-- a row of the table: the first and the last of its code points with the byte sequences that encode them; or sequences that no text has
pub data Row : Type 0 where
  char : ℕ → ℕ → List Range → Row
  never : List Range → Row

-- a byte that goes on with a character
abbrev pub continuation : Range
continuation = 0x80 to 0xBF

-- the table, row by row
abbrev pub table : List Row
table =
    char 0x0000 0x007F ((0x00 to 0x7F) ∷ [])
    ∷ char 0x0080 0x07FF ((0xC2 to 0xDF) ∷ continuation ∷ [])
    ∷ char 0x0800 0x0FFF ((0xE0 to 0xE0) ∷ (0xA0 to 0xBF) ∷ continuation ∷ [])
    ∷ char 0x1000 0xCFFF ((0xE1 to 0xEC) ∷ continuation ∷ continuation ∷ [])
    ∷ char 0xD000 0xD7FF ((0xED to 0xED) ∷ (0x80 to 0x9F) ∷ continuation ∷ [])
    ∷ char 0xE000 0xFFFF ((0xEE to 0xEF) ∷ continuation ∷ continuation ∷ [])
    ∷ char 0x10000 0x3FFFF ((0xF0 to 0xF0) ∷ (0x90 to 0xBF) ∷ continuation ∷ continuation ∷ [])
    ∷ char 0x40000 0xFFFFF ((0xF1 to 0xF3) ∷ continuation ∷ continuation ∷ continuation ∷ [])
    ∷ char 0x100000 0x10FFFF ((0xF4 to 0xF4) ∷ (0x80 to 0x8F) ∷ continuation ∷ continuation ∷ [])
    ∷ []

-- a surrogate: a lead one, or a trail one
abbrev pub surrogate : List Range
surrogate = (0xED to 0xED) ∷ (0xA0 to 0xBF) ∷ continuation ∷ []

abbrev pub lead_surrogate : List Range
lead_surrogate = (0xED to 0xED) ∷ (0xA0 to 0xAF) ∷ continuation ∷ []

abbrev pub trail_surrogate : List Range
trail_surrogate = (0xED to 0xED) ∷ (0xB0 to 0xBF) ∷ continuation ∷ []

-- a lead surrogate with a trail surrogate right behind it
abbrev pub pair : List Range
pair = lead_surrogate ++ trail_surrogate

-- what WTF-8 has besides the table: a surrogate, but for the lead one of a pair
abbrev pub besides : Encoding → List Row
besides Utf8 = []
besides Wtf8 = never pair ∷ char 0xD800 0xDFFF surrogate ∷ []

abbrev pub rows : Encoding → List Row
rows e = table ++ besides e

-- the length of the character that the text begins with, by the first row that admits its bytes; 0 where none does
unfoldable pub length_by : List Row → List ℕ → ℕ
length_by [] s = 0
length_by (char first last rs ∷ more) s = cond (admits rs s) (length rs) (length_by more s)
length_by (never rs ∷ more) s = cond (admits rs s) 0 (length_by more s)

unfoldable pub char_length : Encoding → List ℕ → ℕ
char_length e s = length_by (rows e) s

-- the code point of the n bytes that the text begins with: their bits, without those that mark the length
unfoldable pub code_by : ℕ → List ℕ → ℕ
code_by n s =
    cond (eqb n 1) (get_or s 0 0)
    (cond (eqb n 2) (get_or s 0 0 % 32 * 64 + get_or s 1 0 % 64)
    (cond (eqb n 3) (get_or s 0 0 % 16 * 4096 + get_or s 1 0 % 64 * 64 + get_or s 2 0 % 64)
    (cond (eqb n 4) (get_or s 0 0 % 8 * 262144 + get_or s 1 0 % 64 * 4096 + get_or s 2 0 % 64 * 64 + get_or s 3 0 % 64) 0)))

-- the character that the text begins with: its length in bytes and its code point; a length of 0 where there is none
unfoldable pub char_at : Encoding → List ℕ → Char
char_at e s = record { len = char_length e s; code = code_by (char_length e s) s }

-- where no character stands, `stop`; past the first byte of one, `go` with the number of its other bytes
abbrev pub past : {A : Type 0} → ℕ → A → (ℕ → A) → A
past zero stop go = stop
past (suc n) stop go = go n

-- behind `skip` bytes, which belong to a character already seen, the text is one character after the other
unfoldable pub formed : Encoding → ℕ → List ℕ → Bool
formed e skip [] = true
formed e (suc skip) (x ∷ s) = formed e skip s
formed e zero (x ∷ s) = past (char_length e (x ∷ s)) false (λ n. formed e n s)

abbrev pub well_formed : Encoding → List ℕ → Bool
well_formed e s = formed e 0 s
