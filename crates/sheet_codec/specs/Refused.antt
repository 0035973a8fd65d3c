-- What a refusal says of the bytes s, without a decoder: 1 by their number, 2 to 7 and 13 at a field, 8 behind a sheet. Refusal 9 is `Uncooked` (SheetOf).
use Rattle.std.specs.Prelude.{◌≡◌, ℕ, ◌≤◌, ◌<◌, length}
use mathlib.Core.List.{List, ◌∷◌, ◌++◌, flat_map}
use Rattle.sheet.specs.Limits.{sheet_limit}
use Rattle.sheet.specs.Sheet.{Sheet}
use Rattle.sheet_codec.specs.Encode.{encode_sheet}
use Rattle.sheet_codec.specs.Limits.{FieldsFit}
use Rattle.sheet_codec.specs.Breaks.{bytes_of, Meets}
use Rattle.sheet_codec.specs.FieldsOf.{fields_of}

-- 1. The sheet has more than 65,536 bytes
abbrev pub TooLong : List ℕ → Type 0
TooLong s = sheet_limit < length s

-- 2 to 7, and 13. The refusal is met at a field of some sheet, which goes on from the fields before it in any way
pub record MetAtField (s : List ℕ) (r : ℕ) : Type 0 where
  pub sheet : Sheet
  pub its_bytes : flat_map bytes_of (fields_of sheet) ≡ encode_sheet sheet
  pub meets : Meets (fields_of sheet) s r

-- 8. Bytes follow the root node
pub record BytesFollow (s : List ℕ) : Type 0 where
  pub sheet : Sheet
  pub fit : FieldsFit sheet
  pub next : ℕ
  pub behind : List ℕ
  pub bytes : s ≡ encode_sheet sheet ++ next ∷ behind
  pub few : length s ≤ sheet_limit
