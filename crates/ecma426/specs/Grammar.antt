-- The body of a comment that names a source map, as ECMA-426 has it, with no parser: pieces from one place of the body to the next.
use Rattle.std.specs.Prelude.{◌≡◌, Bool, true, false, ◌⊎◌, ◌↔◌, List, ◌++◌, ℕ, length, Option, Some, None}
use Rattle.laws.specs.Ascii.{ascii}
use Rattle.text.specs.Characters.{OneWith, Stands}
use Rattle.analysis.specs.declared.Capture.{Capture}
use Rattle.ecma426.specs.WhiteSpace.{is_space, not_space}

-- a character of the kind, which tests code points
abbrev pub OneOf : (ℕ → Bool) → List ℕ → List ℕ → Type 0
OneOf kind = OneWith (λ p. kind p ≡ true)

-- from one place to the other stand characters of the kind, any number of them
pub data Row (s : List ℕ) (kind : ℕ → Bool) : ℕ → ℕ → Type 0 where
  none : {at : ℕ} → Row s kind at at
  more : {at next end : ℕ} → Stands (OneOf kind) s at next → Row s kind next end → Row s kind at end

-- exactly the bytes of the word
abbrev pub Word : List ℕ → List ℕ → List ℕ → Type 0
Word word s t = s ≡ word ++ t

-- `#` or `@` is the first byte
abbrev pub Marked : List ℕ → Type 0
Marked body = Stands (Word (ascii "#")) body 0 1 ⊎ Stands (Word (ascii "@")) body 0 1

-- `#` or `@`, whitespace or none, `sourceMappingURL=`, a run without whitespace, which is captured, then only whitespace or nothing
pub record MapReading (body : List ℕ) (k : Capture) : Type 0 where
  pub at : ℕ
  pub mark : Marked body
  pub white : Row body is_space 1 at
  pub word : Stands (Word (ascii "sourceMappingURL=")) body at k.from
  pub run : Row body not_space k.from k.to
  pub end : Row body is_space k.to (length body)
  pub bare : k.quoted ≡ false

-- the answer is a reading of the body, nothing exactly where there is none, and there is at most one
pub record FindsMap (body : List ℕ) (answer : Option Capture) : Type 0 where
  pub some : (k : Capture) → (answer ≡ Some k) ↔ MapReading body k
  pub none : (answer ≡ None) ↔ ((k : Capture) → MapReading body k → ⊥)
  pub one : (k l : Capture) → MapReading body k → MapReading body l → k ≡ l
