-- What holds of bytes, and is kept however decoders are put together, holds of all fields that a sheet is made of.
use Rattle.laws.proofs.Prelude.{◌≡◌, refl, Bool, true, ◌||◌, List, Option, ℕ, zero, suc, ◌+◌, ◌-◌, ◌*◌, eqb, leb, ltb}
use Rattle.laws.specs.Decoded.{Decoder}
use Rattle.laws.proofs.Kept.{Kept, test, either}
use Rattle.text.specs.{declared.utf8.Encoding.Encoding, Utf8.well_formed}
use Rattle.wire.specs.{Refusals.at_fields, Refusals.one_of, Text.count, Text.text, Optional.optional}
use Rattle.wire.specs.Refusals as refusals
use Rattle.wire.specs.Fields.{byte, below, Values, numbered, flag, bytes}
use Rattle.wire.specs.Number.{largest, last_group, groups, number}

-- a refusal that is judged at a field
abbrev pub AtField : ℕ → Type 0
AtField r = one_of at_fields r ≡ true

pub record OfFields (P : (A : Type 0) → Decoder A → Type 0) : Type 1 where
  pub kept : Kept P AtField
  pub a_byte : P ℕ byte
  pub some_bytes : (n : ℕ) → P (List ℕ) (bytes n)

pub two : AtField refusals.cut_off
unfolding one_of
two = refl

pub three : AtField refusals.byte
unfolding one_of
three = refl

pub four : AtField refusals.limit
unfolding one_of
four = refl

pub five : AtField refusals.text
unfolding one_of
five = refl

pub six : AtField refusals.position
unfolding one_of
six = refl

pub seven : AtField refusals.comments
unfolding one_of
seven = refl

pub thirteen : AtField refusals.quotation
unfolding one_of
thirteen = refl

-- a number refuses by 2 alone
module _ {P : (A : Type 0) → Decoder A → Type 0} {N : ℕ → Type 0} (kept : Kept P N) (two : N refusals.cut_off) (a_byte : P ℕ byte) where
  last_kept : (scale low b : ℕ) → P ℕ (last_group scale low b)
  unfolding last_group
  last_kept scale low b = test kept (leb scale 1 || ltb 0 b) two (test kept (leb (low + scale * b) largest) two (kept.ends (low + scale * b)))

  groups_kept : (k scale low : ℕ) → P ℕ (groups k scale low)
  unfolding groups
  groups_kept zero scale low = kept.refuses two
  groups_kept (suc k) scale low =
      kept.then a_byte
      (λ b. test kept (ltb b 256) two (either kept (ltb b 128) (last_kept scale low b) (groups_kept k (scale * 128) (low + scale * (b - 128)))))

  pub number_kept : P ℕ number
  unfolding number
  number_kept = groups_kept 5 1 0

module _ {P : (A : Type 0) → Decoder A → Type 0} (h : OfFields P) where
  open h use {kept, a_byte, some_bytes}
  open h.kept use {ends, then, changed}

  pub below_kept : (limit : ℕ) → P ℕ (below limit)
  unfolding below
  below_kept limit = then a_byte (λ b. test kept (ltb b limit) three (ends b))

  pub numbered_kept : {A : Type 0} (values : Values A) → P A (numbered values)
  unfolding numbered
  numbered_kept values = then (below_kept _) (λ b. ends _)

  pub flag_kept : P Bool flag
  unfolding flag
  flag_kept = then (below_kept 2) (λ b. ends (eqb b 1))

  pub optional_kept : {A : Type 0} {d : Decoder A} → P A d → P (Option A) (optional d)
  unfolding optional
  optional_kept p = then flag_kept (λ there. either kept there (changed _ p) (ends _))

  pub count_kept : (limit : ℕ) → P ℕ (count limit)
  unfolding count
  count_kept limit = then (number_kept kept two a_byte) (λ n. test kept (leb n limit) four (ends n))

  pub text_kept : (e : Encoding) (limit : ℕ) → P (List ℕ) (text e limit)
  unfolding text
  text_kept e limit = then (count_kept limit) (λ n. then (some_bytes n) (λ x. test kept (well_formed e x) five (ends x)))
