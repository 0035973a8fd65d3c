-- Well-formed texts, without a reader: rows of code points, each by its bytes.
use Rattle.std.specs.Prelude.{◌≡◌, Bool, true, ◌↔◌, ℕ}
use mathlib.Core.List.{List, ◌∷◌, ◌++◌, flat_map}
use Rattle.laws.specs.Codec.{All}
use Rattle.text.specs.declared.utf8.Encoding.{Encoding}
use Rattle.text.specs.Ranges.{in_ranges}
use Rattle.text.specs.Encode.{encode, code_points, Lead, Trail}

-- no lead surrogate stands right before a trail one; where there are no surrogates this holds of itself
abbrev pub Unpaired : List ℕ → Type 0
Unpaired points = (front back : List ℕ) (p q : ℕ) → points ≡ front ++ p ∷ q ∷ back → Lead p → Trail q → ⊥

-- x is the text of these code points, all of which the encoding has: UTF-8 the scalar values, WTF-8 all of them
pub record TextOf (e : Encoding) (points x : List ℕ) : Type 0 where
  pub each : All (λ p. in_ranges (code_points e) p ≡ true) points
  pub unpaired : Unpaired points
  pub bytes : x ≡ flat_map encode points

-- x is well-formed: the text of a row of code points
abbrev pub WellFormed : Encoding → List ℕ → Type 0
WellFormed e x = (points : List ℕ) × TextOf e points x

-- r says whether x is well-formed, and a text has one row of code points only
pub record Judges (e : Encoding) (x : List ℕ) (r : Bool) : Type 0 where
  pub exactly : (r ≡ true) ↔ WellFormed e x
  pub one_row : (points others : List ℕ) → TextOf e points x → TextOf e others x → points ≡ others
