-- Worked cases of the definitions, which antt computes.
use Rattle.laws.proofs.Prelude.{◌≡◌, refl, List, [], ◌∷◌, map, ℕ}
use Rattle.laws.specs.Ascii.{ascii}
use Rattle.std.specs.declared.cmp.Ordering.TheVariants.{Less, Equal, Greater}
use Rattle.text.specs.{declared.position.Position.Position, Bytes.order, Utf8.admits}
use Rattle.text.specs.Position.{characters, step, walk, position_of}
use Rattle.text.specs.Lossy.{replacing, surrogates, lossy, replaced}

-- "aé", LF, "€b"
lines : List ℕ
lines = 0x61 ∷ 0xC3 ∷ 0xA9 ∷ 0x0A ∷ 0xE2 ∷ 0x82 ∷ 0xAC ∷ 0x62 ∷ []

at : ℕ → ℕ → Position
at line column = record { line = line; column = column }

-- before each of its characters, and at its end
positions : map (position_of characters lines) (0 ∷ 1 ∷ 3 ∷ 4 ∷ 7 ∷ 8 ∷ []) ≡ at 0 0 ∷ at 0 1 ∷ at 0 2 ∷ at 1 0 ∷ at 1 1 ∷ at 1 2 ∷ []
unfolding lines at step walk position_of
positions = refl

-- "a", the surrogate U+D800, U+D7FF
lone : List ℕ
lone = 0x61 ∷ 0xED ∷ 0xA0 ∷ 0x80 ∷ 0xED ∷ 0x9F ∷ 0xBF ∷ []

one_replaced : (lossy lone ≡ 0x61 ∷ 0xEF ∷ 0xBF ∷ 0xBD ∷ 0xED ∷ 0x9F ∷ 0xBF ∷ []) × (replaced lone ≡ 1)
unfolding lone admits replacing surrogates
one_replaced = (refl, refl)

-- each of four words against each of them
words : List (List ℕ)
words = ascii "" ∷ ascii "a" ∷ ascii "ab" ∷ ascii "b" ∷ []

orders : map (λ a. map (order a) words) words
    ≡ (Equal ∷ Less ∷ Less ∷ Less ∷ [])
    ∷ (Greater ∷ Equal ∷ Less ∷ Less ∷ [])
    ∷ (Greater ∷ Greater ∷ Equal ∷ Less ∷ [])
    ∷ (Greater ∷ Greater ∷ Greater ∷ Equal ∷ [])
    ∷ []
unfolding words order
orders = refl
