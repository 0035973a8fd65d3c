-- What stands in some bytes.
use Rattle.std.specs.Prelude.{◌≡◌, List, ◌++◌, ℕ}

-- the bytes s end with next
pub record EndOf (next s : List ℕ) : Type 0 where
  pub front : List ℕ
  pub among : s ≡ front ++ next

-- x stands in the bytes s
pub record PartOf (x s : List ℕ) : Type 0 where
  pub before : List ℕ
  pub behind : List ℕ
  pub among : s ≡ before ++ (x ++ behind)
