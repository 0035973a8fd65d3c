-- Worked cases of the classes, which antt computes.
use Rattle.laws.proofs.Prelude.{◌≡◌, refl, Bool, true, ◌&&◌, List, [], ◌∷◌, flat_map, ℕ, eqb}
use mathlib.Core.List.{foldr}
use Rattle.text.specs.declared.class.Class.{Class, TheVariants.White, TheVariants.Alphabetic}
use Rattle.text.specs.{Ranges.in_ranges, Encode.encode, Alphabetic.alphabetic}
use Rattle.text.specs.Utf8.{admits, length_by, char_length, code_by, char_at}
use Rattle.text.specs.Class.{outside, ranges, member, class_at, run, run_length}

-- the length of the character of a class at a code point's text, and that of the longest run of a class at the text of code points
data Case : Type 0 where
  one : Class → ℕ → ℕ → Case
  several : Class → List ℕ → ℕ → Case

table : List Case
table =
    one White 0x0085 2
    ∷ one White 0x00A0 2
    ∷ one White 0x1680 3
    ∷ one White 0x200A 3
    ∷ one White 0x2029 3
    ∷ one White 0x3000 3
    ∷ one White 0x200B 0
    ∷ one White 0xFEFF 0
    ∷ one White 0x180E 0
    ∷ one Alphabetic 0x00E9 2  -- é
    ∷ one Alphabetic 0x03A9 2  -- Ω
    ∷ one Alphabetic 0x4E2D 3  -- 中
    ∷ one Alphabetic 0x0031 0  -- 1
    ∷ one Alphabetic 0x005F 0  -- _
    ∷ one Alphabetic 0x00D7 0  -- ×
    ∷ several White (0x0009 ∷ 0x3000 ∷ 0x0020 ∷ 0x0085 ∷ 0x0061 ∷ 0x0020 ∷ []) 7
    ∷ []

holds : Case → Bool
holds (one c p n) = eqb (class_at c (encode p)) n
holds (several c ps n) = eqb (run_length c (flat_map encode ps)) n

worked : foldr (λ (t : Case) (b : Bool). holds t && b) true table ≡ true
unfolding table holds alphabetic in_ranges admits length_by char_length code_by char_at encode flat_map outside ranges member class_at run
worked = refl
