-- What `order` prints for the bytes of a delivery: `in order`, `module I entry J NAME` or `refused N module I`, on a line.
use mathlib.Core.List.{List, [], ◌∷◌, ◌++◌, flat_map}
use Rattle.std.specs.Prelude.{ℕ, ◌+◌, ◌*◌}
use Prim.Native.Char.{code}
use Prim.Native.String.{String}
use Rattle.laws.specs.Ascii.{ascii}
use Rattle.citation.specs.Citation.{decimal, escaped}
use Rattle.delivery.specs.Order.{Answer, in_order, not_in_order, refused, order_of}

-- bytes of the work buffer
abbrev pub work_room : ℕ
work_room = 65536

-- and of that for the line
abbrev pub line_room : ℕ
line_room = 4 * work_room + 64

-- a word and a number
abbrev pub counted : String → ℕ → List ℕ
counted word n = ascii word ++ decimal n

-- NAME is the specifier, with the bytes escaped that `cite` escapes
unfoldable pub printed_answer : Answer → List ℕ
printed_answer in_order = ascii "in order" ++ (0x0A ∷ [])
printed_answer (not_in_order i j x) = counted "module " i ++ (counted " entry " j ++ (code " " ∷ (flat_map escaped x ++ (0x0A ∷ []))))
printed_answer (refused r i) = counted "refused " r ++ (counted " module " i ++ (0x0A ∷ []))

abbrev pub printed_order : List ℕ → List ℕ
printed_order s = printed_answer (order_of work_room s)
