-- A number takes a byte at least.
use Rattle.laws.proofs.Prelude.{Bool, true, false, cond, [], ◌∷◌, ℕ, ◌+◌, ◌/◌, ◌%◌, ◌<◌, arith, ltb, length}
use Rattle.wire.specs.Number.{encode_groups, encode_number}

pub number_long : (n : ℕ) → 0 < length (encode_number n)
unfolding encode_number encode_groups
number_long n = by_size (ltb n 128)
  where
    by_size : (b : Bool) → 0 < length (cond b (n ∷ []) ((128 + n % 128) ∷ encode_groups 4 (n / 128)))
    by_size true = omega arith
    by_size false = omega arith
