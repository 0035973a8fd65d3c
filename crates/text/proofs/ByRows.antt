-- Character lengths by the rows: each code point has one row, and what is read is its encoding.
use Rattle.laws.proofs.Prelude.{◌≡◌, refl, sym, ap, ◌∙◌, Bool, true, false, cond, ◌&&◌, ◌||◌, and-eq-true_iff, List, [], ◌∷◌, ◌++◌, ℕ, ◌+◌, ◌≤◌, zero-add}
use Rattle.laws.proofs.Prelude.{arith, ltb, drop, ltb-true}
use mathlib.Core.Bool.{not-eq-not}
use Rattle.laws.specs.code.Told.{Meant}
use Rattle.text.specs.declared.utf8.{Char.Char, Encoding.Encoding, Encoding.TheVariants.Utf8, Encoding.TheVariants.Wtf8}
use Rattle.text.specs.Ranges.{Range, ◌to◌, within, in_ranges}
use Rattle.text.specs.Utf8.{Row, char, never, rows, char_length, char_at}
use Rattle.text.specs.{Encode.encode, ByRows.rows_with, ByRows.ByRows}
use Rattle.text.proofs.{Exact.exact, WithinRange.within_iff}
use Rattle.text.proofs.Reader.{spans, covered, otherwise, reader_sound, reads, pair_unread}

-- a range lies before or behind each of the others
abbrev apart : ℕ → ℕ → List Range → Bool
apart a b [] = true
apart a b ((c to d) ∷ rs) = (ltb b c || ltb d a) && apart a b rs

-- so does each range of the rows
abbrev all_apart : List Row → Bool
all_apart [] = true
all_apart (char first last rs ∷ more) = apart first last (spans more) && all_apart more
all_apart (never rs ∷ more) = all_apart more

module _ (p : ℕ) where
  nowhere_else : (a b : ℕ) (rs : List Range) → apart a b rs ≡ true → (a ≤ p) × (p ≤ b) → in_ranges rs p ≡ false
  unfolding in_ranges
  nowhere_else a b [] t i = refl
  nowhere_else a b ((c to d) ∷ rs) t i =
      let (here, more) = (and-eq-true_iff (ltb b c || ltb d a) (apart a b rs)).0 t in
      let out : within (c to d) p ≡ false = not-eq-not.0 λ w.
      let (l, u) = (within_iff c d p).0 w in
      let before = ltb-true d a (otherwise (ltb b c) (ltb d a) here λ h. omega (arith, ltb-true b c h)) in
      omega arith in
      rw out (nowhere_else a b rs more i)

  -- where no two rows have a code point in common, each that one of them has is counted once
  counted : (table : List Row) → all_apart table ≡ true → rows_with table p ≡ cond (in_ranges (spans table) p) 1 0
  unfolding rows_with in_ranges
  counted [] t = refl
  counted (char first last rs ∷ more) t =
      let (here, t) = (and-eq-true_iff (apart first last (spans more)) (all_apart more)).0 t in
      go (within (first to last) p) refl here (counted more t)
    where
      go : (b : Bool) → within (first to last) p ≡ b → apart first last (spans more) ≡ true → rows_with more p ≡ cond (in_ranges (spans more) p) 1 0
          → cond b 1 0 + rows_with more p ≡ cond (b || in_ranges (spans more) p) 1 0
      go true w here e = rw (e, nowhere_else first last (spans more) here ((within_iff first last p).0 w))
      go false w here e = rw zero-add e
  counted (never rs ∷ more) t = counted more t

all_apart_lem : (e : Encoding) → all_apart (rows e) ≡ true
all_apart_lem Utf8 = refl
all_apart_lem Wtf8 = refl

-- a length by the rows, and what it says
pub measured : (e : Encoding) (s : List ℕ) {n : ℕ} → n ≡ char_length e s → Meant (n ≡ char_length e s) (ByRows e s n)
unfolding char_at
measured e s i = record {
  answer = i;
  meaning = record {
    exact = exact e;
    once = λ p. counted p (rows e) (all_apart_lem e) ∙ ap (λ (b : Bool). cond b 1 0) (covered e p);
    read = λ p t a h alone. i ∙ ap (char_length e) h ∙ ap (λ (r : Char). r.len) (reads e p t a alone);
    pair = λ p t h w. let (l, q, m, u, k) = w in i ∙ ap (char_length e) (h ∙ ap (encode p ++◌) k) ∙ pair_unread e p q u l m;
    only = λ z. let (p, c) = reader_sound e s (λ h. z (i ∙ h)) in (p, c.among, c.begins ∙ ap (λ (m : ℕ). encode p ++ drop m s) (sym i));
  };
}
