-- Texts that are UTF-8 or WTF-8, or neither, as the definitions compute.
use Rattle.laws.proofs.Prelude.{◌≡◌, refl, Bool, true, false, List, [], ◌∷◌, map, ℕ}
use Rattle.text.specs.declared.utf8.Encoding.TheVariants.{Utf8, Wtf8}
use Rattle.text.specs.Utf8.{admits, length_by, char_length, formed, well_formed}

-- a text, whether it is UTF-8, and whether it is WTF-8
abbrev Case : Type 0
Case = List ℕ × Bool × Bool

abbrev cases : List Case
cases =
    (0x61 ∷ 0xC3 ∷ 0xA9 ∷ 0xE2 ∷ 0x82 ∷ 0xAC ∷ 0xF0 ∷ 0x9F ∷ 0x98 ∷ 0x80 ∷ [], true, true)  -- U+0061, U+00E9, U+20AC, U+1F600
    ∷ (0xC0 ∷ 0xAF ∷ [], false, false)  -- an overlong slash
    ∷ (0xE2 ∷ 0x82 ∷ [], false, false)  -- a character cut off
    ∷ (0x80 ∷ [], false, false)  -- a lone continuation byte
    ∷ (0xED ∷ 0xA0 ∷ 0x80 ∷ [], false, true)  -- a lone surrogate
    ∷ (0xED ∷ 0xB0 ∷ 0x80 ∷ 0xED ∷ 0xA0 ∷ 0x80 ∷ [], false, true)  -- a trail surrogate before a lead
    ∷ (0xED ∷ 0xA0 ∷ 0x80 ∷ 0xED ∷ 0xB0 ∷ 0x80 ∷ [], false, false)  -- a lead surrogate before a trail
    ∷ (0xF4 ∷ 0x90 ∷ 0x80 ∷ 0x80 ∷ [], false, false)  -- past U+10FFFF
    ∷ []

abbrev judged : Case → Case
judged (s, utf8, wtf8) = (s, well_formed Utf8 s, well_formed Wtf8 s)

as_stated : map judged cases ≡ cases
unfolding admits length_by char_length formed
as_stated = refl
