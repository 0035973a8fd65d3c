-- The search for the group of a side at a position, in rows that ascend.
use Rattle.std.specs.Prelude.{Some, None, Result, Ok, Err, option_map}
use Rattle.std.specs.Result.{result_ok}
use Rattle.std.specs.declared.cmp.Ordering.{Ordering}
use Rattle.std.specs.declared.cmp.Ordering.TheVariants.{Less, Equal, Greater}
use Rattle.std.specs.Ordering.{nat_cmp, ordering_then, ordering_index}
use Rattle.std.specs.List.Sorted.{IsSearchInRange, IsBinarySearchResult, IsNonDecreasingBy}
use Rattle.std.proofs.lemmas.Bool.{cases_lt}
use Rattle.std.proofs.lemmas.Bool.Decides.{nat_tests}
use Rattle.std.proofs.lemmas.List.Sorted.{IsNonDecreasingBy-from_default}
use Rattle.std.proofs.lemmas.List.{length-map}
use Rattle.laws.proofs.Prelude.{◌≡◌, refl, sym, ap, ◌∙◌, true, false, ◌⊎◌, inl, inr, ⊎_elim, List, [], ◌∷◌, ℕ, zero, suc, ◌≤◌, ◌<◌, zero-le, suc-le-suc, ◌&&◌}
use Rattle.laws.proofs.Prelude.{not-suc-le-zero, le_of_suc-le-suc, arith, eqb, length, get_or}
use native.Mathlib.Nat.{eq-or-lt_of_le}
use Rattle.sheet.specs.declared.{groups.Group.Group, groups.GroupRow.GroupRow, names.Side.Side}
use Rattle.sheet.specs.declared.names.Side.TheVariants.{Leading, Trailing}
use Rattle.sheet.specs.contracts.names.SideOrd.TheImpl as side_ord
use Rattle.sheet.specs.{Names.side_number, Fit.Ascending, Fit.Precedes, Fit.group_of}
use Rattle.sheet.specs.code.Tables.{group_in, groups_in}
use Rattle.sheet.specs.Lookups.{stands_at, group_at}
use Rattle.sheet.proofs.TableRows.{no_group_row, group_row_lem}

-- a side's number and a position against those sought
abbrev compared : ℕ → ℕ → ℕ → ℕ → Ordering
compared a p s q = ordering_then (nat_cmp a s) (nat_cmp p q)

-- and before another's
abbrev Below : ℕ → ℕ → ℕ → ℕ → Type 0
Below a p b r = (a < b) ⊎ ((a ≡ b) × (p < r))

module _ (a p s q : ℕ) where
  there : compared a p s q ≡ Equal → (eqb a s && eqb p q) ≡ true
  there e = grind (arith, nat_tests)

  before : compared a p s q ≡ Less → (eqb a s && eqb p q) ≡ false
  before e = grind (arith, nat_tests)

  behind : compared a p s q ≡ Greater → (eqb a s && eqb p q) ≡ false
  behind e = grind (arith, nat_tests)

  rises : (b r : ℕ) → Below a p b r → ordering_index (compared a p s q) ≤ ordering_index (compared b r s q)
  rises b r (inl h) = grind (arith, nat_tests)
  rises b r (inr h) = grind (arith, nat_tests)

  earlier : (b r : ℕ) → Below a p b r → (eqb b s && eqb r q) ≡ true → (eqb a s && eqb p q) ≡ false
  earlier b r (inl h) e = grind (arith, nat_tests)
  earlier b r (inr h) e = grind (arith, nat_tests)

-- among groups none of which stands there none is found; else the first that does
module _ (side : Side) (position : ℕ) where
  none_there : (gs : List Group) → ((i : ℕ) → i < length gs → stands_at (group_of gs i) side position ≡ false) → group_at gs side position ≡ None
  unfolding group_at
  none_there [] h = refl
  none_there (g ∷ gs) h = rw (h 0 (suc-le-suc zero-le)) (none_there gs (λ i l. h (suc i) (suc-le-suc l)))

  first_there : (gs : List Group) (i : ℕ) → i < length gs → ((j : ℕ) → j < i → stands_at (group_of gs j) side position ≡ false)
      → stands_at (group_of gs i) side position ≡ true → group_at gs side position ≡ Some (group_of gs i)
  unfolding group_at
  first_there [] i l h e = absurd (not-suc-le-zero l)
  first_there (g ∷ gs) zero l h e = rw e refl
  first_there (g ∷ gs) (suc i) l h e =
      rw (h 0 (suc-le-suc zero-le)) (first_there gs i (le_of_suc-le-suc l) (λ j m. h (suc j) (suc-le-suc m)) e)

-- sides compare by their numbers
by_number : (s t : Side) → side_ord.ghosts.cmp s t ≡ nat_cmp (side_number s) (side_number t)
by_number Leading Leading = refl
by_number Leading Trailing = refl
by_number Trailing Leading = refl
by_number Trailing Trailing = refl

-- how the place of a row's group compares with the one sought
abbrev pub place_order : Side → ℕ → GroupRow → Ordering
place_order side position row = ordering_then (side_ord.ghosts.cmp row.side side) (nat_cmp row.position position)

module _ (rows : List GroupRow) (side : Side) (position : ℕ) where
  -- the same in numbers
  abbrev order : GroupRow → Ordering
  order r = compared (side_number r.side) r.position (side_number side) position

  in_numbers : (r : GroupRow) → order r ≡ place_order side position r
  in_numbers r = ap (λ o. ordering_then o (nat_cmp r.position position)) (sym (by_number r.side side))

  abbrev row : ℕ → GroupRow
  row i = get_or rows i no_group_row

  module _ (asc : Ascending (groups_in rows)) where
    below : (i j : ℕ) → i < j → j < length rows → Below (side_number (row i).side) (row i).position (side_number (row j).side) (row j).position
    below i j l h =
        let first : i < length rows = omega arith in
        by (rw (group_row_lem rows i first, group_row_lem rows j h) at (asc.rise i j l (rw length-map h)))
      where
        by : Precedes (group_in (row i)) (group_in (row j)) → Below (side_number (row i).side) (row i).position (side_number (row j).side) (row j).position
        by (inl x) = inl x
        by (inr x) = inr (ap side_number x.0, x.1)

    rising : IsNonDecreasingBy (λ r. ordering_index (place_order side position r)) rows
    rising = IsNonDecreasingBy-from_default (λ r. ordering_index (place_order side position r)) rows no_group_row
        (λ i j l h. rw (← in_numbers (row i), ← in_numbers (row j)) (go i j h (eq-or-lt_of_le l)))
      where
        go : (i j : ℕ) → j < length rows → (i ≡ j) ⊎ (i < j) → ordering_index (order (row i)) ≤ ordering_index (order (row j))
        go i j h (inl e) = rw e (omega arith)
        go i j h (inr l) =
            rises (side_number (row i).side) (row i).position (side_number side) position (side_number (row j).side) (row j).position (below i j l h)

    pub searched : (r : Result ℕ ℕ) → IsSearchInRange r (length rows) → IsBinarySearchResult (place_order side position) rows r
        → group_at (groups_in rows) side position ≡ option_map (λ i. group_in (row i)) (result_ok r)
    searched (Ok i) inside equal =
        let stands = there (side_number (row i).side) (row i).position (side_number side) position (in_numbers (row i) ∙ equal no_group_row) in
        first_there side position (groups_in rows) i (rw length-map inside)
        (λ j l. let h : j < length rows = omega arith in
        rw (group_row_lem rows j h)
        (earlier (side_number (row j).side) (row j).position (side_number side) position (side_number (row i).side) (row i).position
        (below j i l inside) stands))
        (rw (group_row_lem rows i inside) stands)
        ∙ ap Some (group_row_lem rows i inside)
    searched (Err i) inside parted =
        let (low, high) = parted rising in
        none_there side position (groups_in rows) (λ k l. let h : k < length rows = rw length-map at l in
        rw (group_row_lem rows k h)
        (⊎_elim
        (λ less. before (side_number (row k).side) (row k).position (side_number side) position (in_numbers (row k) ∙ low k no_group_row zero-le less))
        (λ most. behind (side_number (row k).side) (row k).position (side_number side) position (in_numbers (row k) ∙ high k no_group_row most h))
        (cases_lt k i)))
