-- What a call leaves of what it was lent.
use Rattle.std.specs.Prelude.{◌≡◌, List, ℕ, length, drop}

-- left free: only its length is kept
abbrev pub Free : {A : Type 0} → List A → List A → Type 0
Free before after = length after ≡ length before

-- left free in front of place n, and from there on as it was
abbrev pub KeptFrom : {A : Type 0} → ℕ → List A → List A → Type 0
KeptFrom n before after = Free before after × (drop n after ≡ drop n before)
