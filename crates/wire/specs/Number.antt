-- A number in groups of seven bits, low group first, the high bit set if another follows: shortest form only, at most 4,294,967,295.
use Rattle.std.specs.Prelude.{cond, ◌||◌, List, [], ◌∷◌, ℕ, zero, suc, ◌+◌, ◌-◌, ◌*◌, ◌/◌, ◌%◌, leb, ltb}
use Rattle.laws.specs.Decoded.{Decoder, ◌>>=◌, ◌>>◌, return, refuse, require}
use Rattle.wire.specs.Refusals as refusals
use Rattle.wire.specs.Fields.{byte}

abbrev pub largest : ℕ
largest = 4294967295

-- a last group b with its place value, above groups that make up `low`: 0 only by itself, and no number above the largest
unfoldable pub last_group : ℕ → ℕ → ℕ → Decoder ℕ
last_group scale low b = do
  require (leb scale 1 || ltb 0 b) refusals.cut_off
  require (leb (low + scale * b) largest) refusals.cut_off
  return (low + scale * b)

-- at most so many groups, each a byte, the first with its place value, above groups that make up `low`
unfoldable pub groups : ℕ → ℕ → ℕ → Decoder ℕ
groups zero scale low = refuse refusals.cut_off
groups (suc k) scale low = do
  b ← byte
  require (ltb b 256) refusals.cut_off
  cond (ltb b 128) (last_group scale low b) (groups k (scale * 128) (low + scale * (b - 128)))

unfoldable pub number : Decoder ℕ
number = groups 5 1 0

-- the groups of a number, at most so many
unfoldable pub encode_groups : ℕ → ℕ → List ℕ
encode_groups zero n = []
encode_groups (suc k) n = cond (ltb n 128) (n ∷ []) ((128 + n % 128) ∷ encode_groups k (n / 128))

unfoldable pub encode_number : ℕ → List ℕ
encode_number n = encode_groups 5 n
