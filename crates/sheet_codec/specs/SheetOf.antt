-- Bytes that meet none of refusals 1 to 9, stated without a decoder: `accept` accepts just these (proofs/Sheets, law `accepts_exactly`).
use Rattle.std.specs.Prelude.{◌≡◌, List, ℕ}
use Rattle.sheet.specs.Tree.{Node}
use Rattle.sheet.specs.Reached.{Walked, MeetsNine}
use Rattle.sheet.specs.Sheet.{Sheet}
use Rattle.sheet_codec.specs.Encode.{encode_sheet}
use Rattle.sheet_codec.specs.Limits.{WithinLimits}

-- the bytes s are those of a sheet t within 01's limits: they meet none of refusals 1 to 8
pub record Encodes (s : List ℕ) (t : Sheet) : Type 0 where
  pub bytes : encode_sheet t ≡ s
  pub within : WithinLimits t

-- a walked call meets refusal 9
abbrev pub Uncooked : Sheet → Type 0
Uncooked t = (call : Node) × Walked t.root call × MeetsNine call

-- and no walked call meets refusal 9
pub record SheetOf (s : List ℕ) (t : Sheet) : Type 0 where
  pub encodes : Encodes s t
  pub cooked : Uncooked t → ⊥
