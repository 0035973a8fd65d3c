-- What is judged: no bytes, or a sheet. Whatever is asked of bytes is asked of what `judge` says of them.
use Rattle.std.specs.Prelude.{List, [], ◌∷◌, ℕ}
use Rattle.laws.specs.Decoded.{Decoded, ok, no}
use Rattle.sheet.specs.Sheet.{Sheet, accept}

-- no bytes, which stand for no script; a sheet that meets none of refusals 1 to 9; or the first refusal that the bytes meet
pub data Judged : Type 0 where
  empty : Judged
  sheet : Sheet → Judged
  refusal : ℕ → Judged

abbrev pub judged : Decoded Sheet → Judged
judged (ok t s) = sheet t
judged (no r) = refusal r

-- no bytes are no sheet, and no refusal is judged on them: `accept`, which calls them cut off, is asked only where there are some
unfoldable pub judge : List ℕ → Judged
judge [] = empty
judge (b ∷ s) = judged (accept (b ∷ s))
