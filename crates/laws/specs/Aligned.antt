-- Lists that go together.
use Rattle.std.specs.Prelude.{List, [], ◌∷◌}

-- two lists, one to one and in order
pub data Aligned {A B : Type 0} (P : A → B → Type 0) : List A → List B → Type 0 where
  none : Aligned P [] []
  and : {a : A} {b : B} {l : List A} {m : List B} → P a b → Aligned P l m → Aligned P (a ∷ l) (b ∷ m)
