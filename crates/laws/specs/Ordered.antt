-- Lists in an order.
use mathlib.Core.List.{List, [], ◌∷◌, Memᴰ}

-- each stands in the relation to all that follow it
abbrev pub Ordered : {A : Type 0} → (A → A → Type 0) → List A → Type 0
Ordered R [] = Unit {0}
Ordered {A} R (a ∷ l) = ((b : A) → Memᴰ b l → R a b) × Ordered R l
