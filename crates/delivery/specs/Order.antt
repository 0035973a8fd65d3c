-- What is answered of a delivery: in order, not in order, or refused.
use Rattle.std.specs.Prelude.{Bool, false, cond, not, ◌&&◌, ◌||◌, List, [], ◌∷◌, ◌++◌, ℕ, ◌+◌, eqb}
use Rattle.std.specs.Prelude.{None, Option, Some}
use Rattle.laws.specs.Decoded.{Decoded, ok, no}
use Rattle.text.specs.Bytes.{same}
use Rattle.sheet.specs.Judge.{Judged, empty, sheet, refusal, judge}
use Rattle.sheet.specs.Shape.{is_relative}
use Rattle.report.specs.ModuleInfo.{DependencyDescriptor, static, dynamic}
use Rattle.module_info.specs.Information.{module_info, default_info, answer_of}
use Rattle.wire.specs.Refusals as refusals
use Rattle.delivery.specs.Delivery.{Module, decode_delivery}
use Rattle.delivery.specs.Asks.{left_out}

-- in order; not in order, with the module, the entry among its dependencies and the entry's specifier; or refused, with a number and the module.
-- Modules and entries are counted from 0
pub data Answer : Type 0 where
  in_order : Answer
  not_in_order : ℕ → ℕ → List ℕ → Answer
  refused : ℕ → ℕ → Answer

-- the dependencies that a sheet's report lists; of a refused sheet none
abbrev pub entries_in : Judged → List DependencyDescriptor
entries_in empty = default_info.dependencies
entries_in (sheet t) = (module_info t).dependencies
entries_in (refusal r) = []

unfoldable pub entries_of : List ℕ → List DependencyDescriptor
entries_of s = entries_in (judge s)

-- the number that a sheet is answered with a work buffer of so many bytes, 0 for none
abbrev pub number_of : ℕ → List ℕ → ℕ
number_of size s = (answer_of s size).number

-- is a text one of these names?
unfoldable pub among : List ℕ → List (List ℕ) → Bool
among x [] = false
among x (name ∷ names) = same name x || among x names

-- does a name occur twice, with names that stood before?
unfoldable pub repeated : List (List ℕ) → List Module → Bool
repeated earlier [] = false
repeated earlier (m ∷ ms) = among m.name earlier || repeated (earlier ++ (m.name ∷ [])) ms

-- the specifier of an entry that is judged and is not one of the names
abbrev pub late_in : List (List ℕ) → DependencyDescriptor → Option (List ℕ)
late_in earlier (static d) =
    let x = d.specifier.text in
    cond (not (left_out d.kind) && (is_relative x && not (among x earlier))) (Some x) None
late_in earlier (dynamic d) = None

-- entry j of module i is late, or what is behind it is answered
abbrev pub late_at : ℕ → ℕ → Option (List ℕ) → Answer → Answer
late_at i j (Some x) behind = not_in_order i j x
late_at i j None behind = behind

-- the first entry of module i that is late, from entry j on; what is behind them if none is
unfoldable pub entries_in_turn : List (List ℕ) → ℕ → ℕ → List DependencyDescriptor → Answer → Answer
entries_in_turn earlier i j [] behind = behind
entries_in_turn earlier i j (d ∷ ds) behind = late_at i j (late_in earlier d) (entries_in_turn earlier i (j + 1) ds behind)

-- the modules one after the other, from module i on, with the names before it
unfoldable pub modules_in_turn : List (List ℕ) → ℕ → List Module → Answer
modules_in_turn earlier i [] = in_order
modules_in_turn earlier i (m ∷ ms) = entries_in_turn earlier i 0 (entries_of m.sheet) (modules_in_turn (earlier ++ (m.name ∷ [])) (i + 1) ms)

-- the first refused sheet, from module i on; what is behind them if none is
unfoldable pub sheets_in_turn : ℕ → ℕ → List Module → Answer → Answer
sheets_in_turn size i [] behind = behind
sheets_in_turn size i (m ∷ ms) behind =
    cond (eqb (number_of size m.sheet) 0) (sheets_in_turn size (i + 1) ms behind) (refused (number_of size m.sheet) i)

-- refusal 11, then 12, both at index 0; then the sheets; only then the order
abbrev pub order_in : ℕ → Decoded (List Module) → Answer
order_in size (ok ms t) = cond (repeated [] ms) (refused refusals.name_twice 0) (sheets_in_turn size 0 ms (modules_in_turn [] 0 ms))
order_in size (no r) = refused refusals.delivery 0

-- the answer to the bytes s with a work buffer of so many bytes
unfoldable pub order_of : ℕ → List ℕ → Answer
order_of size s = order_in size (decode_delivery s)
