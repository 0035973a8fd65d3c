-- What a match captured: the text, and its place, with the marks around it.
use Rattle.std.specs.Prelude.{cond, List, ℕ, ◌+◌, ◌-◌, ◌≤◌, Option, Some, None}
use Rattle.text.specs.Bytes.{part}
use Rattle.analysis.specs.declared.Capture.{Capture}
use Rattle.analysis.specs.declared.Place.{Place}

-- how many bytes the mark on either side has: one where the captured text is quoted
abbrev pub mark_width : Capture → ℕ
mark_width k = cond k.quoted 1 0

-- the captured range, with the two marks around it where it is quoted
unfoldable pub place_of : Capture → Place
place_of k = record { from = k.from - mark_width k; to = k.to + mark_width k }

-- the captured part of the body
abbrev pub text_of : List ℕ → Capture → List ℕ
text_of body k = part body k.from k.to

-- the captured range and its marks lie within n bytes
pub record Inside (k : Capture) (n : ℕ) : Type 0 where
  pub opens : mark_width k ≤ k.from
  pub ordered : k.from ≤ k.to
  pub closes : k.to + mark_width k ≤ n

-- so does what was found
abbrev pub FoundWithin : Option Capture → ℕ → Type 0
FoundWithin (Some k) n = Inside k n
FoundWithin None n = Unit {0}
