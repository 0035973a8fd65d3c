-- The value of an accepted sheet.
use Rattle.std.specs.Prelude.{◌≡◌, List, [], ℕ}
use Rattle.std.specs.Coded.{Coded-set, coded_ℕ, coded_list}
use mathlib.Core.Path.{refl, sym, ap, ◌∙◌, path_j'}
use mathlib.Core.HLevel.{⊥_prop}
use Rattle.laws.specs.Decoded.{Decoded, ok, no}
use Rattle.sheet.specs.Sheet.{Sheet, accept}

-- bytes with the sheet that they are
pub record AcceptedSheet : Type 0 where
  pub bytes : List ℕ
  pub sheet : Sheet
  pub accepted : accept bytes ≡ ok sheet []

-- the bytes s are an accepted sheet
abbrev pub IsAccepted : List ℕ → Type 0
IsAccepted s = (t : Sheet) × (accept s ≡ ok t [])

-- an answer that leaves nothing is one value
module _ {A : Type 0} where
  -- nothing is left
  abbrev Whole : Decoded A → Type 0
  Whole (ok a s) = s ≡ []
  Whole (no r) = ⊥

  whole_once : (d : Decoded A) → IsProp (Whole d)
  whole_once (ok a s) = Coded-set (coded_list coded_ℕ) s []
  whole_once (no r) = ⊥_prop

  -- the value then
  abbrev value : (d : Decoded A) → Whole d → (a : A) × (d ≡ ok a [])
  value (ok a s) h = (a, ap (ok a) h)
  value (no r) h = absurd h

  whole : (d : Decoded A) (p : (a : A) × (d ≡ ok a [])) → Whole d
  whole d (a, e) = rw e refl

  is_value : (d : Decoded A) (p : (a : A) × (d ≡ ok a [])) → value d (whole d p) ≡ p
  is_value d (a, e) =
      path_j' (λ x f. value x (whole x (a, f)) ≡ (a, f)) (ap (value (ok a [])) (whole_once (ok a []) (whole (ok a []) (a, refl)) refl)) e

  one_value : (d : Decoded A) → IsProp ((a : A) × (d ≡ ok a []))
  one_value d p q = sym (is_value d p) ∙ ap (value d) (whole_once d (whole d p) (whole d q)) ∙ is_value d q

-- the bytes of a sheet are of one sheet
pub one_sheet : (s : List ℕ) → IsProp (IsAccepted s)
one_sheet s = one_value (accept s)
