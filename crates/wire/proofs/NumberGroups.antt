-- A number's groups, and the place values that they have.
use Rattle.std.specs.Prelude.{Ok, Err}
use Rattle.laws.proofs.Prelude.{◌≡◌, refl, ap, ◌∙◌, true, cond, ◌||◌, List, [], ◌∷◌, ℕ, zero, suc, ◌+◌, ◌-◌, ◌*◌, ◌≤◌, ◌<◌, arith, leb, ltb, length, get_or}
use Rattle.laws.proofs.Prelude.{drop, lt-ltb, le-ltb, le-leb}
use native.Mathlib.Nat.{mul-le-mul, le_refl, pow-le-pow_right, pow-suc}
use Rattle.laws.specs.Decoded.{ok, no, ◌>>◌, require}
use Rattle.wire.specs.Fields.{byte}
use Rattle.wire.specs.Number.{largest, last_group, groups, number}
use Rattle.wire.specs.code.Views.{ReadResult, Past, PlaceValue}

-- the next of some groups that are left
module _ (scale low : ℕ) (s : List ℕ) where
  pub none_left : (k : ℕ) → k ≤ 0 → groups k scale low s ≡ no 2
  unfolding groups
  none_left zero h = refl
  none_left (suc k) h = absurd (omega arith)

  pub cut_off : (k : ℕ) {r : ℕ} → 0 < k → byte s ≡ no r → groups k scale low s ≡ no r
  unfolding groups
  cut_off zero l e = absurd (omega arith)
  cut_off (suc k) l e = rw e

  module _ {b : ℕ} {t : List ℕ} (read : byte s ≡ ok b t) where
    pub next_group : (k : ℕ) → 0 < k
        → groups k scale low s
        ≡ (require (ltb b 256) 2 >> cond (ltb b 128) (last_group scale low b) (groups (k - 1) (scale * 128) (low + scale * (b - 128)))) t
    unfolding groups
    next_group zero l = absurd (omega arith)
    next_group (suc k) l = let down : suc k - 1 ≡ k = omega arith in rw (down, read)

    -- a last group, in the shortest form of a number that is not above the largest
    pub last_group_lem : (k : ℕ) → 0 < k → b < 128 → (leb scale 1 || ltb 0 b) ≡ true → low + scale * b ≤ largest
        → groups k scale low s ≡ ok (low + scale * b) t
    unfolding last_group
    last_group_lem k l small short most =
        rw (next_group k l, lt-ltb b 256 (omega arith), lt-ltb b 128 small, short, le-leb (low + scale * b) largest most)

    -- a group that others follow
    pub more_groups : (k : ℕ) → 0 < k → 128 ≤ b → b < 256 → groups k scale low s ≡ groups (k - 1) (scale * 128) (low + scale * (b - 128)) t
    more_groups k l large small = rw (lt-ltb _ 256 small, le-ltb _ 128 large) at (next_group k l)

-- numbers of one, two and three groups
pub one_group : (s : List ℕ) → 1 ≤ length s → get_or s 0 0 < 128 → number s ≡ ok (get_or s 0 0) (drop 1 s)
unfolding number byte
one_group [] h small = absurd (omega arith)
one_group (a ∷ s) h small =
    let value : 0 + 1 * a ≡ a = omega arith in
    last_group_lem 1 0 (a ∷ s) refl 5 (omega arith) small refl (omega arith) ∙ ap (λ n. ok n s) value

-- a first group that others follow
module _ (a : ℕ) (s : List ℕ) (large : 128 ≤ a) (fits : a < 256) where
  second : number (a ∷ s) ≡ groups 4 128 (0 + 1 * (a - 128)) s
  unfolding number byte
  second = more_groups 1 0 (a ∷ s) refl 5 (omega arith) large fits

pub two_groups : (s : List ℕ) → 2 ≤ length s
    → (let a = get_or s 0 0 in
    let b = get_or s 1 0 in
    128 ≤ a → a < 256 → 0 < b → b < 128 → number s ≡ ok (128 * b + a - 128) (drop 2 s))
unfolding byte
two_groups [] h large fits some small = absurd (omega arith)
two_groups (a ∷ []) h large fits some small = absurd (omega arith)
two_groups (a ∷ b ∷ s) h large fits some small =
    let low = 0 + 1 * (a - 128) in
    let value : low + 128 * b ≡ 128 * b + a - 128 = omega arith in
    second a (b ∷ s) large fits
    ∙ last_group_lem 128 low (b ∷ s) refl 4 (omega arith) small (rw (lt-ltb 0 b some)) (omega arith)
    ∙ ap (λ n. ok n s) value

pub three_groups : (s : List ℕ) → 3 ≤ length s
    → (let a = get_or s 0 0 in
    let b = get_or s 1 0 in
    let c = get_or s 2 0 in
    128 ≤ a → a < 256 → 128 ≤ b → b < 256 → 0 < c → c < 128 → number s ≡ ok (16384 * c + 128 * b + a - 16512) (drop 3 s))
unfolding byte
three_groups [] h large fits large' fits' some small = absurd (omega arith)
three_groups (a ∷ []) h large fits large' fits' some small = absurd (omega arith)
three_groups (a ∷ b ∷ []) h large fits large' fits' some small = absurd (omega arith)
three_groups (a ∷ b ∷ c ∷ s) h large fits large' fits' some small =
    let low = 0 + 1 * (a - 128) in
    let value : low + 128 * (b - 128) + 16384 * c ≡ 16384 * c + 128 * b + a - 16512 = omega arith in
    second a (b ∷ c ∷ s) large fits
    ∙ more_groups 128 low (b ∷ c ∷ s) refl 4 (omega arith) large' fits'
    ∙ last_group_lem 16384 (low + 128 * (b - 128)) (c ∷ s) refl 3 (omega arith) small (rw (lt-ltb 0 c some)) (omega arith)
    ∙ ap (λ n. ok n s) value

-- what is left behind fewer bytes
pub past_more : {A : Type 0} (n : ℕ) {m : ℕ} (r : ReadResult A) → m < n → Past m r → Past n r
past_more n (Ok p) h less = omega (arith, less)
past_more n (Err r) h less = tt

pub first_place : PlaceValue 5 1 0
first_place = record { few = omega arith; power = refl; less = omega arith }

module _ {left scale low : ℕ} (p : PlaceValue left scale low) (l : 0 < left) where
  pub scale_small : scale ≤ 268435456
  scale_small =
      rw p.power
      (let base : 0 < 128 = omega arith in
      let most : 5 - left ≤ 4 = omega arith in
      pow-le-pow_right base most)

  module _ (b : ℕ) (h : b < 256) where
    pub group_small : scale * b ≤ 68451041280
    group_small = let most : b ≤ 255 = omega arith in mul-le-mul scale_small most

    pub next_place : PlaceValue (left - 1) (scale * 128) (low + scale * (b - 128))
    next_place =
        let up : 5 - (left - 1) ≡ suc (5 - left) = omega arith in
        let digit : b - 128 ≤ 127 = omega arith in
        let most : scale * (b - 128) ≤ scale * 127 = mul-le-mul (le_refl scale) digit in
        record { few = omega arith; power = rw (up, pow-suc 128 (5 - left), p.power); less = omega arith }

-- groups, one after the other
pub ruleset group_steps = (none_left, cut_off, last_group_lem, more_groups, past_more)
