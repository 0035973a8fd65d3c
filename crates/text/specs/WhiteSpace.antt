-- W of document 01: the 25 code points of Unicode's White_Space.
use Rattle.std.specs.Prelude.{List, [], ◌∷◌}
use Rattle.text.specs.Ranges.{Range, ◌to◌}

abbrev pub white_space : List Range
white_space =
    (0x0009 to 0x000D)
    ∷ (0x0020 to 0x0020)
    ∷ (0x0085 to 0x0085)
    ∷ (0x00A0 to 0x00A0)
    ∷ (0x1680 to 0x1680)
    ∷ (0x2000 to 0x200A)
    ∷ (0x2028 to 0x2029)
    ∷ (0x202F to 0x202F)
    ∷ (0x205F to 0x205F)
    ∷ (0x3000 to 0x3000)
    ∷ []
