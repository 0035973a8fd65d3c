-- The pieces at the front of some bytes, as the code finds them.
use Rattle.laws.proofs.Prelude.{◌≡◌, refl, sym, ◌∙◌, Bool, true, false, cond, ◌&&◌, [], ◌∷◌, ℕ, zero, suc, ◌+◌, ◌-◌, ◌≤◌, ◌<◌, arith, length, take, drop}
use Rattle.laws.proofs.Prelude.{get_or, length-drop, drop-drop, eq-eqb, ne_eqb, eqb, eqb-true, none-some}
use Rattle.std.specs.Prelude.{Option, Some, None, MatchOption, nat_eq}
use Rattle.std.specs.Borrow.{Bor}
use Rattle.std.specs.Cmp.Lexicographic.{pointwise}
use Rattle.std.proofs.lemmas.Cmp.{nat_list_eq_equiv}
use Rattle.text.proofs.Words.{begins_is}
use Rattle.text.specs.declared.class.Class.TheVariants.{Alphabetic, NameRest}
use Rattle.text.specs.{Bytes.begins, Class.class_at, Class.run_length, code.Places.First}
use Prim.Native.Char.{code}
use Rattle.laws.specs.Ascii.{ascii}
use Rattle.jsdoc.specs.Grammar.{Bytes}
use Rattle.jsdoc.specs.Parsed.{Parsed, ok, backtrace}
use Rattle.jsdoc.specs.Reader.{skip, tag, up_to, past_ident, parse_ident}
use Rattle.jsdoc.specs.code.Answers.{rest_as, from_first}

-- a word
begins_front : (w s : Bytes) → pointwise nat_eq (take (length w) s) w ≡ begins w s
begins_front w s = nat_list_eq_equiv.symm (take (length w) s) w ∙ sym (begins_is w s)

pub stripped : (w s : Bytes) (r : Option (Bor Bytes))
    → MatchOption r (pointwise nat_eq (take (length w) s) w ≡ false)
    (λ t. (pointwise nat_eq (take (length w) s) w ≡ true) × ((t.now ≡ drop (length w) s) × (length t.now + length w ≡ length s)))
    → rest_as r ≡ tag w s
unfolding tag
stripped w s None m = rw (← begins_front w s, m)
stripped w s (Some t) m = rw (← begins_front w s, m.0, m.1.0)

never : {A : Type 0} (c : Bool) (a b : A) → cond (c && false) a b ≡ b
never true a b = refl
never false a b = refl

-- a text whose second byte is no i begins no `@import`
pub no_import : (s : Bytes) → (get_or s 1 0 ≡ code "i" → ⊥) → tag (ascii "@import") s ≡ backtrace
unfolding tag begins
no_import [] n = refl
no_import (x ∷ []) n = never (eqb x (code "@")) _ _
no_import (x ∷ y ∷ s) n = rw (ne_eqb y (code "i") n) (never (eqb x (code "@")) _ _)

-- what is left behind the first of some bytes
abbrev pub behind : Option Bytes → Parsed (Unit {0})
behind None = backtrace
behind (Some []) = backtrace
behind (Some (x ∷ s)) = ok tt s

-- from the first m on
module _ (m : ℕ) where
  first_at : (s : Bytes) (i : ℕ) → i < length s → ((k : ℕ) → k < i → get_or s k 0 ≡ m → ⊥) → get_or s i 0 ≡ m → from_first m s ≡ Some (drop i s)
  unfolding from_first
  first_at [] i h f e = absurd (omega arith)
  first_at (x ∷ s) zero h f e = rw (eq-eqb x m e)
  first_at (x ∷ s) (suc i) h f e = rw (ne_eqb x m (f 0 (omega arith))) (first_at s i (omega arith) (λ k l. f (suc k) (omega arith)) e)

  first_none : (s : Bytes) → ((k : ℕ) → k < length s → get_or s k 0 ≡ m → ⊥) → from_first m s ≡ None
  unfolding from_first
  first_none [] f = refl
  first_none (x ∷ s) f = rw (ne_eqb x m (f 0 (omega arith))) (first_none s (λ k l. f (suc k) (omega arith)))

  pub first_found : (s : Bytes) {r : ℕ} → First m s 0 r → r < length s → from_first m s ≡ Some (drop r s)
  first_found s {r} f h = first_at s r h (λ k l. f.passed.each k (omega arith) l) (f.there h)

  pub first_missing : (s : Bytes) {r : ℕ} → First m s 0 r → length s ≤ r → from_first m s ≡ None
  first_missing s {r} f h = first_none s (λ k l. f.passed.each k (omega arith) (omega arith))

  -- and past it
  pub up_to_is : (s : Bytes) → up_to m s ≡ behind (from_first m s)
  unfolding from_first up_to
  up_to_is [] = refl
  up_to_is (x ∷ s) = go (eqb x m) (up_to_is s)
    where
      go : (c : Bool) → up_to m s ≡ behind (from_first m s) → cond c (ok tt s) (up_to m s) ≡ behind (cond c (Some (x ∷ s)) (from_first m s))
      go true e = refl
      go false e = e

-- it is there, no more is left than was, and it begins with m
pub first_left : (m : ℕ) (s t : Bytes) → from_first m s ≡ Some t → (0 < length t) × ((length t ≤ length s) × (get_or t 0 0 ≡ m))
unfolding from_first
first_left m [] t e = absurd (none-some _ e)
first_left m (x ∷ s) t e = go (eqb x m) refl e (first_left m s t)
  where
    go : (c : Bool) → eqb x m ≡ c → cond c (Some (x ∷ s)) (from_first m s) ≡ Some t
        → (from_first m s ≡ Some t → (0 < length t) × ((length t ≤ length s) × (get_or t 0 0 ≡ m)))
        → (0 < length t) × ((length t ≤ suc (length s)) × (get_or t 0 0 ≡ m))
    go true z e f = let i : x ∷ s ≡ t = cc in rw (← i) (omega arith, (omega arith, eqb-true x m z))
    go false z e f = let (a, (b, c)) = f e in (a, (omega arith, c))

-- a name
module _ (s : Bytes) {n : ℕ} (e : n ≡ class_at Alphabetic s) where
  pub ident_missing : n ≡ 0 → parse_ident s ≡ backtrace
  unfolding parse_ident
  ident_missing z = rw (← e, z)

  pub ident_found : (n ≡ 0 → ⊥) → {r : ℕ} → r ≡ n + run_length NameRest (drop n s) → r ≤ length s → parse_ident s ≡ ok (take r s) (drop r s)
  unfolding parse_ident past_ident skip
  ident_found z {r} f h =
      let g : length s - length (drop r s) ≡ r = omega (arith, length-drop r s) in
      rw (← e, ne_eqb n 0 z, drop-drop (run_length NameRest (drop n s)) n s, ← f, g)
