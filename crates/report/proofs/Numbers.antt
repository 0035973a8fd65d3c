-- The groups of a number one after the other, with so many left.
use Rattle.laws.proofs.Prelude.{◌≡◌, refl, [], ◌∷◌, ℕ, zero, suc, ◌+◌, ◌-◌, ◌/◌, ◌%◌, ◌≤◌, ◌<◌, arith, lt-ltb, le-ltb}
use Rattle.wire.specs.Number.{encode_groups}

module _ (n : ℕ) where
  pub no_group_lem : (left : ℕ) → left ≤ 0 → encode_groups left n ≡ []
  unfolding encode_groups
  no_group_lem zero h = refl
  no_group_lem (suc left) h = absurd (omega arith)

  pub last_group_lem : (left : ℕ) → 0 < left → n < 128 → encode_groups left n ≡ n ∷ []
  unfolding encode_groups
  last_group_lem zero l h = absurd (omega arith)
  last_group_lem (suc left) l h = rw (lt-ltb n 128 h)

  pub next_group : (left : ℕ) → 0 < left → 128 ≤ n → encode_groups left n ≡ (128 + n % 128) ∷ encode_groups (left - 1) (n / 128)
  unfolding encode_groups
  next_group zero l h = absurd (omega arith)
  next_group (suc left) l h = let down : suc left - 1 ≡ left = omega arith in rw (le-ltb n 128 h, down)

pub ruleset groups_left = (no_group_lem, last_group_lem, next_group)
