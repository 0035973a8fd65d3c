-- Positions and spans in the source.
use Rattle.std.specs.Prelude.{List, ◌++◌, ℕ, leb}
use Rattle.laws.specs.Decoded.{Decoder, ◌>>=◌, ◌>>◌, return, require}
use Rattle.text.specs.Position.{is_boundary}
use Rattle.wire.specs.Refusals as refusals
use Rattle.wire.specs.Number.{number, encode_number}
use Rattle.sheet.specs.declared.fields.Span.{Span}

-- a position; refusal 6 past the source or inside a character
unfoldable pub position : List ℕ → Decoder ℕ
position source = do
  p ← number
  require (is_boundary source p) refusals.position
  return p

-- an end that does not precede its start
unfoldable pub end_from : List ℕ → ℕ → Decoder ℕ
end_from source start = do
  end ← position source
  require (leb start end) refusals.position
  return end

-- a start and an end
unfoldable pub span : List ℕ → Decoder Span
span source = do
  start ← position source
  end ← end_from source start
  return (record { start = start; end = end })

-- start, end
abbrev pub encode_span : Span → List ℕ
encode_span sp = encode_number sp.start ++ encode_number sp.end
