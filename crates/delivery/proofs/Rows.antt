-- The modules that rows hold, one after the other.
use Rattle.laws.proofs.Prelude.{◌≡◌, refl, ◌∙◌, ◌||◌, List, [], ◌∷◌, ◌++◌, ℕ, zero, suc}
use Rattle.laws.proofs.Prelude.{◌+◌, ◌≤◌, ◌<◌, arith, length, get_or, take, drop, drop_of_length-le, drop-cons, add-one}
use mathlib.Core.List.{map-append}
use Rattle.std.specs.List.{list_any}
use Rattle.std.proofs.lemmas.{List.take_more}
use Rattle.laws.specs.Codec.{All}
use Rattle.text.specs.Bytes.{same}
use Rattle.delivery.specs.declared.modules.ModuleRead.{ModuleRead}
use Rattle.delivery.specs.{Delivery.Module, Right.names_of, code.Views.module_as, code.Views.modules_in}
use Rattle.delivery.specs.Order.{among, repeated, entries_of, entries_in_turn, modules_in_turn}
use Rattle.delivery.proofs.Turns.{module_here}

-- a text is the name of a row's module just where it is one of the names
pub among_rows : (x : List ℕ) (rows : List ModuleRead) → list_any (λ (r : ModuleRead). same r.name.now x) rows ≡ among x (names_of (modules_in rows))
unfolding among
among_rows x [] = refl
among_rows x (r ∷ rows) = rw (among_rows x rows)

-- the first i modules, and the others
module _ (rows : List ModuleRead) (i : ℕ) (d : ModuleRead) (h : i < length rows) where
  pub next_row : modules_in (drop i rows) ≡ module_as (get_or rows i d) ∷ modules_in (drop (i + 1) rows)
  next_row = rw (add-one, drop-cons rows i d h)

  pub name_more : names_of (modules_in (take (i + 1) rows)) ≡ names_of (modules_in (take i rows)) ++ ((get_or rows i d).name.now ∷ [])
  name_more =
      rw (take_more rows i d h, map-append module_as (take i rows) (get_or rows i d ∷ []))
      (map-append (λ m. m.name) (modules_in (take i rows)) (module_as (get_or rows i d) ∷ []))

  -- the next name occurred before, or it did not
  pub repeated_here : (among (get_or rows i d).name.now (names_of (modules_in (take i rows)))
      || repeated (names_of (modules_in (take (i + 1) rows))) (modules_in (drop (i + 1) rows)))
      ≡ repeated (names_of (modules_in (take i rows))) (modules_in (drop i rows))
  unfolding repeated
  repeated_here = rw (next_row, name_more)

  -- the entries of the next module, and then the modules behind it
  pub module_at : modules_in_turn (names_of (modules_in (take i rows))) i (modules_in (drop i rows))
      ≡ entries_in_turn (names_of (modules_in (take i rows))) i 0 (entries_of (get_or rows i d).sheet.now)
      (modules_in_turn (names_of (modules_in (take (i + 1) rows))) (i + 1) (modules_in (drop (i + 1) rows)))
  module_at = module_here next_row _ i ∙ rw name_more

-- behind the last row there is none
pub rows_end : (rows : List ModuleRead) (i : ℕ) → length rows ≤ i → modules_in (drop i rows) ≡ []
rows_end rows i h = rw (drop_of_length-le rows h)

-- what holds of each module holds of that of a row
pub row_has : (P : Module → Type 0) (rows : List ModuleRead) (i : ℕ) (d : ModuleRead) → i < length rows → All P (modules_in rows)
    → P (module_as (get_or rows i d))
row_has P [] i d h all = absurd (omega arith)
row_has P (r ∷ rows) zero d h all = all.0
row_has P (r ∷ rows) (suc i) d h all = row_has P rows i d (omega arith) all.1
