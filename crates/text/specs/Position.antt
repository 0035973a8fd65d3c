-- Lines and columns of a text, from 0: a line ends at LF, a column counts characters, each by its units.
use Rattle.std.specs.Prelude.{◌≡◌, Bool, false, cond, not, ◌&&◌, ◌⊎◌, ◌↔◌, ℕ, ◌+◌, ◌*◌, ◌≤◌, ◌<◌, ◌/◌, ◌%◌, eqb, leb, ltb, length, get_or, take, drop}
use mathlib.Core.List.{List, [], ◌∷◌, ◌++◌, flat_map}
use Rattle.text.specs.declared.position.Position.{Position}
use Rattle.text.specs.declared.utf8.Encoding.TheVariants.{Utf8}
use Rattle.text.specs.Ranges.{within}
use Rattle.text.specs.Utf8.{continuation}
use Rattle.text.specs.Encode.{encode}
use Rattle.text.specs.WellFormed.{TextOf}

-- the units of a character, by its first byte
abbrev pub Units : Type 0
Units = ℕ → ℕ

-- every character counts one
abbrev pub characters : Units
characters b = 1

-- code units of UTF-16: a character of four bytes counts two, any other one
abbrev pub utf16 : Units
utf16 b = cond (leb 0xF0 b) 2 1

-- the position past a byte: LF ends the line; a byte that goes on with a character adds nothing; any other begins a character
unfoldable pub step : Units → Position → ℕ → Position
step unit p b =
    cond (eqb b 0x0A)
    (record { line = p.line + 1; column = 0 })
    (record { line = p.line; column = p.column + cond (within continuation b) 0 (unit b) })

-- the position past some bytes
unfoldable pub walk : Units → Position → List ℕ → Position
walk unit p [] = p
walk unit p (b ∷ s) = walk unit (step unit p b) s

abbrev pub start_position : Position
start_position = record { line = 0; column = 0 }

-- the position at a place of a text
unfoldable pub position_of : Units → List ℕ → ℕ → Position
position_of unit s at = walk unit start_position (take at s)

-- a place neither past a text nor inside a character; at the end `get_or` gives 0, which goes on with none
abbrev pub Boundary : List ℕ → ℕ → Type 0
Boundary s p = (p ≤ length s) × (within continuation (get_or s p 0) ≡ false)

-- is it one? (proofs/Boundary, law `is_boundary_iff`)
unfoldable pub is_boundary : List ℕ → ℕ → Bool
is_boundary s p = leb p (length s) && not (within continuation (get_or s p 0))

-- one position comes before another: on an earlier line, or on its line in an earlier column
abbrev pub Before : Position → Position → Type 0
Before p q = (p.line < q.line) ⊎ ((p.line ≡ q.line) × (p.column < q.column))

-- ---- "A line ends at LF; a column counts characters"

-- the position past a character, given by its code point: LF ends the line, any other adds its units
unfoldable pub past_character : Units → Position → ℕ → Position
past_character unit p c =
    cond (eqb c 0x0A)
    (record { line = p.line + 1; column = 0 })
    (record { line = p.line; column = p.column + unit (get_or (encode c) 0 0) })

-- the position past a row of characters: one step for each
unfoldable pub past_characters : Units → Position → List ℕ → Position
past_characters unit p [] = p
past_characters unit p (c ∷ cs) = past_characters unit (past_character unit p c) cs

-- a place of a text that is behind the characters `front` and before the characters `back`
pub record Cut (s : List ℕ) (at : ℕ) (front back : List ℕ) : Type 0 where
  pub text : TextOf Utf8 (front ++ back) s
  pub place : at ≡ length (flat_map encode front)

-- in a text the places that are neither past it nor inside a character are those behind a row of its characters, and the position there is the one
-- past that row
pub record Counted (unit : Units) (s : List ℕ) : Type 0 where
  pub places : (at : ℕ) → Boundary s at ↔ ((front : List ℕ) × (back : List ℕ) × Cut s at front back)
  pub positions : (at : ℕ) (front back : List ℕ) → Cut s at front back → position_of unit s at ≡ past_characters unit start_position front

-- ---- an index of positions

-- the first n positions of an index are those at each 64th byte of a text
pub record Indexed (unit : Units) (s : List ℕ) (index : List Position) (n : ℕ) : Type 0 where
  pub right : (k : ℕ) → k < n → get_or index k start_position ≡ position_of unit s (64 * k)

-- the position at a place by an index: from the one that it has for the last 64th byte not past it; if it has none, from the start of the text
unfoldable pub indexed_position : Units → List ℕ → List Position → ℕ → Position
indexed_position unit s index at =
    cond (ltb (at / 64) (length index))
    (walk unit (get_or index (at / 64) start_position) (take (at % 64) (drop (64 * (at / 64)) s)))
    (position_of unit s at)
