-- The program of a sheet.
use Rattle.std.specs.Prelude.{List, ℕ}
use Rattle.laws.specs.Decoded.{Decoder, ◌>>=◌, return}
use Rattle.wire.specs.Fields.{flag}
use Rattle.wire.specs.Optional.{optional}
use Rattle.sheet.specs.declared.program.Program as declared
use Rattle.sheet.specs.Fields.{position, span}

-- whether it is a script, its span, whether there is a shebang, and where the first item starts, if there is one
abbrev pub Program : Type 0
Program = declared.Program

unfoldable pub program : List ℕ → Decoder Program
program source = do
  script ← flag
  sp ← span source
  shebang ← flag
  first ← optional (position source)
  return (record { script = script; span = sp; shebang = shebang; first = first })
