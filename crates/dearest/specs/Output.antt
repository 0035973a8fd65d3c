-- What is written to an input.
use Rattle.std.specs.Prelude.{◌≡◌, List, [], ℕ}
use Rattle.scan.specs.Dearest.{star_and_braces, Dearest}
use Rattle.dearest.specs.Input.{Asks}

-- to an input that asks for n bytes a star and then only `{`, a dearest body of n bytes; to any other nothing
pub record Written (input output : List ℕ) : Type 0 where
  pub body : (n : ℕ) → Asks input n → output ≡ star_and_braces n
  pub dearest : (n : ℕ) → Asks input n → Dearest n output
  pub nothing : ((n : ℕ) → Asks input n → ⊥) → output ≡ []
