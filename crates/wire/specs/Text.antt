-- Counts and texts.
use Rattle.std.specs.Prelude.{List, ◌++◌, ℕ, leb, length}
use Rattle.laws.specs.Decoded.{Decoder, ◌>>=◌, ◌>>◌, return, require}
use Rattle.text.specs.declared.utf8.Encoding.{Encoding}
use Rattle.text.specs.Utf8.{well_formed}
use Rattle.wire.specs.Refusals as refusals
use Rattle.wire.specs.Fields.{bytes}
use Rattle.wire.specs.Number.{number, encode_number}

-- a number up to a limit: a count, or a length; refusal 4 over it
unfoldable pub count : ℕ → Decoder ℕ
count limit = do
  n ← number
  require (leb n limit) refusals.limit
  return n

-- a text: a length and bytes, which are two fields; refusal 5 where the bytes are ill-formed
unfoldable pub text : Encoding → ℕ → Decoder (List ℕ)
text e limit = do
  n ← count limit
  x ← bytes n
  require (well_formed e x) refusals.text
  return x

unfoldable pub encode_text : List ℕ → List ℕ
encode_text x = encode_number (length x) ++ x
