-- What the number of an answer says of the bytes s, without a decoder.
use Rattle.std.specs.Prelude.{◌≡◌, ◌⊎◌, ◌↔◌, true, List, [], ◌++◌, ℕ, ◌≤◌, length}
use Rattle.wire.specs.Refusals.{at_fields, of_sheets, one_of}
use Rattle.wire.specs.Refusals as refusals
use Rattle.sheet.specs.Limits.{sheet_limit}
use Rattle.sheet.specs.Sheet.{Sheet}
use Rattle.sheet_codec.specs.SheetOf.{Encodes, Uncooked, SheetOf}
use Rattle.sheet_codec.specs.Refused.{TooLong, MetAtField, BytesFollow}
use Rattle.module_info.specs.Information.{answer_of}

pub record NumberRight (s : List ℕ) (number : ℕ) : Type 0 where
  -- 0, one of a sheet, or 10
  pub known : (number ≡ 0) ⊎ ((one_of of_sheets number ≡ true) ⊎ (number ≡ refusals.buffer))
  -- 0 and 10: s has no bytes, or is the encoding of a sheet within 01's limits, and no walked call has an uncooked template
  pub accepted : ((number ≡ 0) ⊎ (number ≡ refusals.buffer)) ↔ ((s ≡ []) ⊎ ((t : Sheet) × SheetOf s t))
  -- 1: s has more than 65,536 bytes
  pub one : (number ≡ refusals.sheet_length) ↔ TooLong s
  -- those at fields, 2 to 7 and 13: at some field, all before which are unbroken, s breaks what 01 asks, and nothing of a lower number
  pub at_field : one_of at_fields number ≡ true → MetAtField s number
  -- all of these but 2 are judged from the front: they stay the answer to every longer sheet that begins with s, up to the limit of 1
  pub stays : one_of at_fields number ≡ true → (number ≡ refusals.cut_off → ⊥) → (u : List ℕ) → length (s ++ u) ≤ sheet_limit → (size : ℕ)
      → (answer_of (s ++ u) size).number ≡ number
  -- 8: bytes follow the root node
  pub eight : (number ≡ refusals.trailing) ↔ BytesFollow s
  -- 9: s is the encoding of a sheet within the limits, and a walked call has an uncooked template
  pub nine : (number ≡ refusals.uncooked) ↔ ((t : Sheet) × Encodes s t × Uncooked t)
