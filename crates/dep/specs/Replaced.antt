-- What is noted beside a dependency: where its node starts, and how many surrogates were replaced in its text.
use Rattle.std.specs.Prelude.{◌≡◌, List, ◌↔◌, ℕ}
use Rattle.std.specs.Prelude.{Some}
use Rattle.text.specs.declared.utf8.Encoding.TheVariants.{Wtf8}
use Rattle.text.specs.WellFormed.{TextOf}
use Rattle.text.specs.Lossy.{surrogates_among}
use Rattle.sheet.specs.Walk.{Visit, start_of}
use Rattle.report.specs.ModuleInfo.{string, DependencyDescriptor, static, dynamic}
use Rattle.dep_entries.specs.Entries.{Noted}
use Rattle.dep.specs.Collect.{text_of}

-- the one text that a dependency reports: its specifier's, or its argument if that is one text
abbrev pub Shows : DependencyDescriptor → List ℕ → Type 0
Shows (static d) y = d.specifier.text ≡ y
Shows (dynamic d) y = d.argument ≡ string y

-- the number of surrogates of the text x, which is reported as y
pub record Replaces (x y : List ℕ) (number : ℕ) : Type 0 where
  -- they are counted among the text's code points
  pub count : (points : List ℕ) → TextOf Wtf8 points x → number ≡ surrogates_among points
  -- 0 exactly where the text is reported as it is
  pub exact : (number ≡ 0) ↔ (y ≡ x)

-- the number beside the dependency of a visit: that of its one text, or 0 where it has none
pub record NumberOf (v : Visit) (d : DependencyDescriptor) (number : ℕ) : Type 0 where
  pub one : (y : List ℕ) → Shows d y → (x : List ℕ) × (text_of v ≡ Some x) × Replaces x y number
  pub none : ((y : List ℕ) → Shows d y → ⊥) → number ≡ 0

-- a dependency beside its visit: where the visit's node starts, and that number
pub record NotedOf (v : Visit) (e : Noted) : Type 0 where
  pub start : e.start ≡ start_of v
  pub number : NumberOf v e.entry e.number
