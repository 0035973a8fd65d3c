-- The lossy text by code points: each surrogate is reported as U+FFFD, and any other code point as itself.
use Rattle.laws.proofs.Prelude.{◌≡◌, refl, sym, ap, ◌∙◌, Bool, true, false, cond, true≢false, List, [], ◌∷◌, ◌++◌, map, flat_map, ◌↔◌, ℕ, suc, ◌+◌, ◌/◌, ◌%◌}
use Rattle.laws.proofs.Prelude.{◌≤◌, ◌<◌, zero-add, arith, leb, length, drop, length-append, eqb-true, eq-eqb, le-leb, lt-leb, leb-false}
use mathlib.Core.Bool.{and-false, not-eq-not}
use lib.Seq.{drop_at}
use Rattle.laws.specs.Codec.{All}
use Rattle.text.specs.{declared.utf8.Encoding.TheVariants.Utf8, declared.utf8.Encoding.TheVariants.Wtf8, Utf8.admits, Utf8.surrogate}
use Rattle.text.specs.Ranges.{◌to◌, within, in_ranges}
use Rattle.text.specs.{Encode.encode, Encode.code_points, WellFormed.TextOf}
use Rattle.text.specs.Lossy.{replacing, surrogates, lossy, replaced, reported, surrogates_among, LossyOf}
use Rattle.text.proofs.{CodePoint.by_length, Replaced.marked, Replaced.marked_count, WellFormed.scalars_unpaired, WithinRange.within_iff}
use Rattle.text.proofs.Exact as rows
use Rattle.text.proofs.Reader.{bounded, unique, text_only, text_all}

abbrev is_surrogate : ℕ → Bool
is_surrogate p = within (0xD800 to 0xDFFF) p

-- a surrogate in front of a text
replaces : (p : ℕ) (t : List ℕ) → is_surrogate p ≡ true → (lossy (encode p ++ t) ≡ encode 0xFFFD ++ lossy t) × (replaced (encode p ++ t) ≡ suc (replaced t))
unfolding encode
replaces p t h =
    let (l, u) = (within_iff 0xD800 0xDFFF p).0 h in
    let s = encode p ++ t in
    let a = text_all rows.surrogates p l u t in
    let three : length (encode p) ≡ 3 = ((rows.surrogates).all p l u).1 in
    let some : 0 < length s = omega (arith, length-append (encode p) t) in
    let rest : drop 3 s ≡ t = drop_at (encode p) t 3 three in
    (rw rest at (marked s 0 some a), rw rest at (marked_count s 0 some a))

-- bytes that are kept in front of a text, one by one
record Kept (t bs : List ℕ) : Type 0 where
  same : lossy (bs ++ t) ≡ bs ++ lossy t
  none : replaced (bs ++ t) ≡ replaced t

module _ (t : List ℕ) where
  kept_none : Kept t []
  kept_none = record { same = refl; none = refl }

  kept_byte : (b : ℕ) {bs : List ℕ} → admits surrogate (b ∷ (bs ++ t)) ≡ false → Kept t bs → Kept t (b ∷ bs)
  unfolding replacing surrogates
  kept_byte b a k = record { same = rw (a, k.same); none = rw (a, k.none) }

  kept_bits : (n : ℕ) {bs : List ℕ} → Kept t bs → Kept t ((0x80 + n % 64) ∷ bs)
  unfolding admits
  kept_bits n = kept_byte (0x80 + n % 64) (rw (lt-leb 0xED (0x80 + n % 64) (omega arith)))

  -- any other code point is kept
  keeps : (p : ℕ) → p ≤ 0x10FFFF → is_surrogate p ≡ false → Kept t (encode p)
  keeps p b h =
      by_length (λ bs. admits surrogate (bs ++ t) ≡ false → Kept t bs) p
      (λ l a. kept_byte p a kept_none)
      (λ l u a. kept_byte (0xC0 + p / 64) a (kept_bits p kept_none))
      (λ l u a. kept_byte (0xE0 + p / 4096) a (kept_bits (p / 64) (kept_bits p kept_none)))
      (λ l a. kept_byte (0xF0 + p / 262144) a (kept_bits (p / 4096) (kept_bits (p / 64) (kept_bits p kept_none))))
      (not-eq-not.0 other)
    where
      other : admits surrogate (encode p ++ t) ≡ true → ⊥
      other a =
          let (q, l, u, n, e) = text_only rows.surrogates (encode p ++ t) a in
          let same = unique p q t _ b (omega arith) e in
          true≢false (sym ((within_iff 0xD800 0xDFFF p).1 (rw same (l, u))) ∙ h)

-- a code point that is reported is a scalar value
scalar : (p : ℕ) → p ≤ 0x10FFFF → in_ranges (code_points Utf8) (reported p) ≡ true
unfolding in_ranges
scalar p b = go (is_surrogate p) refl (leb p 0xD7FF) refl
  where
    go : (s : Bool) → is_surrogate p ≡ s → (c : Bool) → leb p 0xD7FF ≡ c → in_ranges (code_points Utf8) (cond s 0xFFFD p) ≡ true
    go true h c e = refl
    go false h true e = rw (e, le-leb 0 p (omega arith))
    go false h false e =
        let l = leb-false p 0xD7FF e in
        let above : leb 0xE000 p ≡ true = not-eq-not.0 λ z.
        let u = leb-false 0xE000 p z in
        true≢false (sym ((within_iff 0xD800 0xDFFF p).1 (omega arith)) ∙ h) in
        rw (e, above, le-leb p 0x10FFFF b, and-false)

abbrev Points : List ℕ → Type 0
Points = All (λ p. in_ranges (code_points Wtf8) p ≡ true)

-- row by row
rows_reported : (ps : List ℕ) → Points ps
    → (lossy (flat_map encode ps) ≡ flat_map encode (map reported ps)) × (replaced (flat_map encode ps) ≡ surrogates_among ps)
unfolding flat_map replacing surrogates surrogates_among
rows_reported [] a = (refl, refl)
rows_reported (p ∷ ps) a = go (is_surrogate p) refl (rows_reported ps a.1)
  where
    t : List ℕ
    t = flat_map encode ps

    go : (s : Bool) → is_surrogate p ≡ s → (lossy t ≡ flat_map encode (map reported ps)) × (replaced t ≡ surrogates_among ps)
        → (lossy (encode p ++ t) ≡ encode (cond s 0xFFFD p) ++ flat_map encode (map reported ps))
        × (replaced (encode p ++ t) ≡ cond s 1 0 + surrogates_among ps)
    go true h (k, n) = let (x, y) = replaces p t h in (x ∙ ap (encode 0xFFFD ++◌) k, omega (arith, y, n))
    go false h (k, n) = let c = keeps t p (bounded Wtf8 p a.0) h in (c.same ∙ ap (encode p ++◌) k, omega (arith, c.none, n))

scalars : (ps : List ℕ) → Points ps → All (λ p. in_ranges (code_points Utf8) p ≡ true) (map reported ps)
scalars [] a = tt
scalars (p ∷ ps) a = (scalar p (bounded Wtf8 p a.0), scalars ps a.1)

-- no surrogate is counted just where there is none
none_among : (ps : List ℕ) → (surrogates_among ps ≡ 0) ↔ All (λ p. is_surrogate p ≡ false) ps
unfolding surrogates_among
none_among [] = (λ z. tt, λ a. refl)
none_among (p ∷ ps) = (λ z. go (is_surrogate p) refl z (none_among ps).0, λ a. rw (a.0, zero-add) ((none_among ps).1 a.1))
  where
    go : (s : Bool) → is_surrogate p ≡ s → cond s 1 0 + surrogates_among ps ≡ 0 → (surrogates_among ps ≡ 0 → All (λ p. is_surrogate p ≡ false) ps)
        → (is_surrogate p ≡ false) × All (λ p. is_surrogate p ≡ false) ps
    go true h z on = absurd (omega arith)
    go false h z on = (h, on (omega arith))

pub lossy_of : {points x : List ℕ} → TextOf Wtf8 points x → LossyOf points x
lossy_of {points} {x} t =
    let (k, n) = rows_reported points t.each in
    let all = scalars points t.each in
    let count : replaced x ≡ surrogates_among points = ap replaced t.bytes ∙ n in
    record {
      text = record { each = all; unpaired = scalars_unpaired (map reported points) all; bytes = ap lossy t.bytes ∙ k };
      count = count;
      exactly = (λ e. (none_among points).0 (sym count ∙ eqb-true (replaced x) 0 e), λ a. eq-eqb (replaced x) 0 (count ∙ (none_among points).1 a));
    }
