-- What a function says of its answer, by the names of its parts.
use Rattle.std.specs.Prelude.{◌≡◌}

-- an answer r: seen by `view` it is `value`, and it keeps the bounds
pub record Told {A B : Type 0} (view : A → B) (value : B) (Bounds : A → Type 0) (r : A) : Type 0 where
  pub answer : view r ≡ value
  pub bounds : Bounds r

-- an answer of which `Says` holds, and the bounds that it keeps
pub record Bounded (Says Bounds : Type 0) : Type 0 where
  pub answer : Says
  pub bounds : Bounds

-- the same, and what is left of what was lent
pub record Lent (Says Bounds Left : Type 0) : Type 0 where
  pub answer : Says
  pub bounds : Bounds
  pub left : Left

-- an answer without bounds, and what is left of what was lent
pub record Leaving (Says Left : Type 0) : Type 0 where
  pub answer : Says
  pub left : Left

-- an answer, and what is written into a second buffer
pub record Beside (Says Beside : Type 0) : Type 0 where
  pub answer : Says
  pub beside : Beside

-- an answer by one definition, and what it means by another
pub record Meant (Says Means : Type 0) : Type 0 where
  pub answer : Says
  pub meaning : Means

-- an answer with its bounds, and how far it reaches
pub record Reaching (Says Bounds Reach : Type 0) : Type 0 where
  pub answer : Says
  pub bounds : Bounds
  pub reach : Reach
