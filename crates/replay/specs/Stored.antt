-- The stored list: rows of a sheet and the answer that is stored for it. Numbers take four bytes, low byte first.
use Rattle.std.specs.Prelude.{List, [], ◌∷◌, ℕ, zero, suc, ◌+◌, ◌*◌}
use Rattle.laws.specs.Decoded.{Decoder, ◌>>=◌, ◌>>◌, return}
use Rattle.wire.specs.Fields.{byte, bytes}
use Rattle.sheet.specs.Sheet.{ending}

-- a sheet, the number of its answer, and the bytes of its report
pub record Row : Type 0 where
  pub sheet : List ℕ
  pub number : ℕ
  pub report : List ℕ

unfoldable pub four_bytes : Decoder ℕ
four_bytes = do
  a ← byte
  b ← byte
  c ← byte
  d ← byte
  return (a + 256 * b + 65536 * (c + 256 * d))

-- a length, and so many bytes
unfoldable pub piece : Decoder (List ℕ)
piece = do
  n ← four_bytes
  bytes n

unfoldable pub row : Decoder Row
row = do
  sheet ← piece
  number ← byte
  report ← piece
  return (record { sheet = sheet; number = number; report = report })

-- so many rows
unfoldable pub rows : ℕ → Decoder (List Row)
rows zero = return []
rows (suc n) = do
  r ← row
  l ← rows n
  return (r ∷ l)

-- how many rows there are, the rows, and nothing behind them
unfoldable pub stored_rows : Decoder (List Row)
stored_rows = do
  n ← four_bytes
  l ← rows n
  ending
  return l
