-- Laws of lists that go together.
use mathlib.Core.List.{List, ◌++◌}
use Rattle.laws.specs.Aligned.{Aligned}

module _ {A B : Type 0} where
  -- what follows from the relation
  pub aligned_map : {P Q : A → B → Type 0} → ((a : A) (b : B) → P a b → Q a b) → {l : List A} {m : List B} → Aligned P l m → Aligned Q l m
  aligned_map f Aligned.none = Aligned.none
  aligned_map f (Aligned.and p h) = Aligned.and (f _ _ p) (aligned_map f h)

  -- one pair of lists behind another
  pub aligned_append : {P : A → B → Type 0} {l k : List A} {m n : List B} → Aligned P l m → Aligned P k n → Aligned P (l ++ k) (m ++ n)
  aligned_append Aligned.none i = i
  aligned_append (Aligned.and p h) i = Aligned.and p (aligned_append h i)
