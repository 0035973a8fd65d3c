-- What the bytes of a text count.
use Rattle.std.specs.Prelude.{Bool, true, false, cond, ℕ}
use Rattle.text.specs.Ranges.{within}
use Rattle.text.specs.Utf8.{continuation}

-- the byte begins a character
abbrev pub begins_one : ℕ → Bool
begins_one b = cond (within continuation b) false true
