-- A table over a body in which readings are marked, whatever its cells are.
use Rattle.std.specs.Prelude.{◌≡◌, List, [], ◌∷◌, ℕ, ◌-◌, ◌<◌, length, set, get_or}
use Rattle.std.specs.Prelude.{None, Option, Some}
use Rattle.analysis.specs.Mode.{Mode}
use Rattle.jsdoc.specs.Grammar.{Bytes}
use Rattle.jsdoc.specs.Parsed.{Parser, value}
use Rattle.jsdoc.specs.Reader.{Hit, hit, parse_jsdoc_dynamic_import, parse_jsdoc_import_decl}

-- a cell is marked by what stands there, the place that reads and the mode
abbrev pub Marking : Type 0 → Type 0
Marking A = A → ℕ → Mode → A

-- what holds of every mark that answers as the code's does
abbrev pub ByMark : {A : Type 0} → (A → ℕ → Mode → A → Type 0) → (Marking A → Type 0) → Type 0
ByMark {A} post P = (f : Marking A) → ((x : A) (i : ℕ) (m : Mode) (r : A) → post x i m r → r ≡ f x i m) → P f

-- a cell that is marked stays as it is for a later place of that mode
abbrev pub Stays : {A : Type 0} → Marking A → Type 0
Stays {A} f = (x : A) (i k : ℕ) (m : Mode) → i < k → f (f x i m) k m ≡ f x i m

module _ {A : Type 0} (f : Marking A) (d : A) where
  abbrev pub mark_at : ℕ → ℕ → Mode → List A → List A
  mark_at i q m l = set l q (f (get_or l q d) i m)

  -- the reading of s, which ends a body of n bytes
  abbrev pub hit_marked : ℕ → Bytes → Option Hit → List A → List A
  hit_marked n s None l = l
  hit_marked n s (Some (hit q e m)) l = mark_at (n - length s) (n - length q) m l

  -- the readings of a parser from each place of s, which ends a body of n bytes
  unfoldable pub all_marked : Parser Hit → ℕ → Bytes → List A → List A
  all_marked p n [] l = l
  all_marked p n (x ∷ s) l = all_marked p n s (hit_marked n (x ∷ s) (value (p (x ∷ s))) l)

  abbrev pub readings_marked : Bytes → List A → List A
  readings_marked b l = all_marked parse_jsdoc_import_decl (length b) b (all_marked parse_jsdoc_dynamic_import (length b) b l)
