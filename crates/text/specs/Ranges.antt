-- Ranges of numbers: of bytes, and of code points.
use Rattle.std.specs.Prelude.{Bool, false, ◌&&◌, ◌||◌, List, [], ◌∷◌, ℕ, ◌+◌, ◌≤◌, ◌<◌, leb, length, get_or}

infix 60 ◌to◌
-- the numbers from the first to the second, both included
pub data Range : Type 0 where
  ◌to◌ : ℕ → ℕ → Range

abbrev pub within : Range → ℕ → Bool
within (lo to hi) x = leb lo x && leb x hi

-- x lies in one of the ranges
unfoldable pub in_ranges : List Range → ℕ → Bool
in_ranges [] x = false
in_ranges (r ∷ rs) x = within r x || in_ranges rs x

-- the bounds of ranges: each one's first number, and the number after its last
abbrev pub bounds : List Range → List ℕ
bounds [] = []
bounds ((lo to hi) ∷ rs) = lo ∷ (hi + 1) ∷ bounds rs

-- each bound is below those after it
pub record Ascending (a : List ℕ) : Type 0 where
  pub rise : (i j : ℕ) → i < j → j < length a → get_or a i 0 < get_or a j 0

-- the first n bounds are at most x, and the others above it
pub record Split (a : List ℕ) (x n : ℕ) : Type 0 where
  pub within : n ≤ length a
  pub below : (k : ℕ) → k < n → get_or a k 0 ≤ x
  pub above : (k : ℕ) → n ≤ k → k < length a → x < get_or a k 0
