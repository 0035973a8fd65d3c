-- What ECMAScript's `\s` matches: WhiteSpace and LineTerminator of its lexical grammar.
use Rattle.std.specs.Prelude.{◌≡◌, Bool, true, not, ◌⊎◌, List, [], ◌∷◌, ◌++◌, ℕ}
use Rattle.text.specs.Ranges.{Range, ◌to◌, in_ranges}
use Rattle.text.specs.WhiteSpace as unicode

-- the characters of general category Zs
abbrev pub space_separators : List Range
space_separators =
    (0x0020 to 0x0020)
    ∷ (0x00A0 to 0x00A0)
    ∷ (0x1680 to 0x1680)
    ∷ (0x2000 to 0x200A)
    ∷ (0x202F to 0x202F)
    ∷ (0x205F to 0x205F)
    ∷ (0x3000 to 0x3000)
    ∷ []

-- WhiteSpace: TAB, VT, FF, U+FEFF, and these
abbrev pub white_space : List Range
white_space = (0x0009 to 0x0009) ∷ (0x000B to 0x000C) ∷ (0xFEFF to 0xFEFF) ∷ space_separators

-- LineTerminator: LF, CR, U+2028, U+2029
abbrev pub line_terminator : List Range
line_terminator = (0x000A to 0x000A) ∷ (0x000D to 0x000D) ∷ (0x2028 to 0x2029) ∷ []

-- the code point is one of these
unfoldable pub is_space : ℕ → Bool
is_space p = in_ranges (white_space ++ line_terminator) p

-- it is Unicode's White_Space but not U+0085, or it is U+FEFF
abbrev pub ByUnicode : ℕ → Type 0
ByUnicode p = ((in_ranges unicode.white_space p ≡ true) × (p ≡ 0x85 → ⊥)) ⊎ (p ≡ 0xFEFF)

-- any other
abbrev pub not_space : ℕ → Bool
not_space p = not (is_space p)
