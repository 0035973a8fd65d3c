-- Texts byte by byte: parts, and comparison.
use Rattle.std.specs.Prelude.{◌≡◌, Bool, true, false, cond, ◌&&◌, ◌⊎◌, List, [], ◌∷◌, ℕ, ◌-◌, eqb, ltb, take, drop}
use Rattle.std.specs.declared.cmp.Ordering.{Ordering}
use Rattle.std.specs.declared.cmp.Ordering.TheVariants.{Less, Equal, Greater}

-- the bytes of a text from one place to another; a place is a number of bytes from the start
abbrev pub part : List ℕ → ℕ → ℕ → List ℕ
part s from to = take (to - from) (drop from s)

-- a quotation mark: `"` or `'`
abbrev pub Mark : ℕ → Type 0
Mark b = (b ≡ 0x22) ⊎ (b ≡ 0x27)

-- the text begins with the word
unfoldable pub begins : List ℕ → List ℕ → Bool
begins [] s = true
begins (w ∷ ws) [] = false
begins (w ∷ ws) (x ∷ s) = eqb x w && begins ws s

-- the two are the same text: true just where they are equal (laws `same_sound`, `same_refl`)
unfoldable pub same : List ℕ → List ℕ → Bool
same [] [] = true
same [] (y ∷ b) = false
same (x ∷ a) [] = false
same (x ∷ a) (y ∷ b) = eqb x y && same a b

-- the order of two texts by their first byte that differs, a proper prefix first
unfoldable pub order : List ℕ → List ℕ → Ordering
order [] [] = Equal
order [] (y ∷ b) = Less
order (x ∷ a) [] = Greater
order (x ∷ a) (y ∷ b) = cond (ltb x y) Less (cond (ltb y x) Greater (order a b))
