-- What the code does with some bytes s, if the bytes of a valid value stand at their front: it finds those behind them, and the value.
use Rattle.std.specs.Prelude.{◌≡◌, Bool, List, ◌++◌, ℕ, ◌≤◌}
use Rattle.laws.specs.code.Among.{EndOf}
use Rattle.wire.specs.Fields.{encode_flag}
use Rattle.wire.specs.Number.{largest, encode_number}

module _ {A : Type 0} (encode : A → List ℕ) (Valid : A → Type 0) (s : List ℕ) where
  -- the value is the one whose bytes stand there
  abbrev pub ReadsBack : A → List ℕ → Type 0
  ReadsBack value next = (a : A) → Valid a → (t : List ℕ) → s ≡ encode a ++ t → (value ≡ a) × (next ≡ t)

  -- only the bytes behind it are found
  abbrev pub Skips : List ℕ → Type 0
  Skips next = (a : A) → Valid a → (t : List ℕ) → s ≡ encode a ++ t → next ≡ t

-- a number that can be written is read
abbrev pub ReadsNumber : List ℕ → ℕ → List ℕ → Type 0
ReadsNumber = ReadsBack encode_number (λ n. n ≤ largest)

-- and of any bytes it is one that can be written, with an end of them behind it
pub record Number (s : List ℕ) (value : ℕ) (next : List ℕ) : Type 0 where
  pub small : value ≤ largest
  pub rest : EndOf next s
  pub read : ReadsBack encode_number (λ n. n ≤ largest) s value next

-- a flag is read
abbrev pub Flag : List ℕ → Bool → List ℕ → Type 0
Flag = ReadsBack encode_flag (λ b. Unit {0})
