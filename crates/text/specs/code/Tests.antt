-- A test of code points as the code has it: one that is called.
use Rattle.std.specs.Prelude.{◌≡◌, Bool, ℕ}

-- what holds of every test that answers as the code's does
abbrev pub ByTest : (ℕ → Bool → Type 0) → ((ℕ → Bool) → Type 0) → Type 0
ByTest post P = (test : ℕ → Bool) → ((p : ℕ) (answer : Bool) → post p answer → answer ≡ test p) → P test
