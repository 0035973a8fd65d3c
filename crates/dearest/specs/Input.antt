-- What an input asks for, and what is read of it.
use Rattle.std.specs.Prelude.{◌≡◌, ◌⊎◌, List, [], ◌∷◌, ◌++◌, ℕ, ◌+◌, ◌*◌, ◌≤◌, ◌<◌, length}
use Prim.Native.Char.{code}
use Rattle.laws.specs.Ascii.{ascii}
use Rattle.scan.specs.Scan.{longest}

-- w is n in decimal digits without leading zeros, where n is at least 1
pub data Numeral : List ℕ → ℕ → Type 0 where
  first : (d : ℕ) → 1 ≤ d → d ≤ 9 → Numeral ((code "0" + d) ∷ []) d
  next : {w : List ℕ} {n : ℕ} → Numeral w n → (d : ℕ) → d ≤ 9 → Numeral (w ++ ((code "0" + d) ∷ [])) (10 * n + d)

-- such digits of a number from 1 to 32,764
abbrev pub Digits : List ℕ → ℕ → Type 0
Digits w n = Numeral w n × (n ≤ longest)

-- the input asks for n bytes: the digits of n, one last LF allowed
pub record Asks (input : List ℕ) (n : ℕ) : Type 0 where
  pub digits : List ℕ
  pub number : Digits digits n
  pub all : (input ≡ digits) ⊎ (input ≡ digits ++ ascii "\n")

-- what was read of an input: all of it, or seven bytes or more
pub record ReadOf (input front : List ℕ) : Type 0 where
  pub rest : List ℕ
  pub all : input ≡ front ++ rest
  pub ended : length front < 7 → rest ≡ []
