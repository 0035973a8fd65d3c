-- The test for a quotation says what it should, and what its bytes say of it.
use Rattle.laws.proofs.Prelude.{◌≡◌, refl, sym, Bool, true, false, ◌&&◌, ◌||◌, or-true, true≢false, List, [], ◌∷◌, inl, inr, ⊎_elim, ◌↔◌, ℕ, ◌-◌, ◌≤◌, ◌<◌}
use Rattle.laws.proofs.Prelude.{not-suc-le-zero, arith, eqb, length, get_or, drop, length-drop, drop-cons, le-leb, ne_eqb}
use mathlib.Core.Bool.{and-true, or-false}
use Rattle.laws.specs.Ascii.{ascii}
use Rattle.text.specs.Bytes.{Mark, begins}
use Rattle.sheet.specs.{Comments.enclosed, Quotation.Quotation, Quotation.looks_quoted}
use Rattle.sheet.proofs.Marks.{enclosed_sound, enclosed_complete}

-- true just where it is one
pub looks_quoted_iff : (bytes : List ℕ) → (looks_quoted bytes ≡ true) ↔ Quotation bytes
unfolding looks_quoted
looks_quoted_iff bytes = (λ e. there (enclosed (ascii "\"") (ascii "\"") bytes) refl (enclosed (ascii "'") (ascii "'") bytes) refl e, back)
  where
    between : (m : ℕ) → Mark m → enclosed (m ∷ []) (m ∷ []) bytes ≡ true → Quotation bytes
    between m h e = let (t, i) = enclosed_sound (m ∷ []) (m ∷ []) bytes e in record { mark = m; inside = t; of_mark = h; all = i }

    there : (a : Bool) → enclosed (ascii "\"") (ascii "\"") bytes ≡ a → (b : Bool) → enclosed (ascii "'") (ascii "'") bytes ≡ b → (a || b) ≡ true →
        Quotation bytes
    there true i b j e = between 0x22 (inl refl) i
    there false i true j e = between 0x27 (inr refl) j
    there false i false j e = absurd (true≢false (sym e))

    back : Quotation bytes → looks_quoted bytes ≡ true
    back q = ⊎_elim
        (λ e. rw (enclosed_complete (ascii "\"") (ascii "\"") bytes q.inside (rw e at q.all)))
        (λ e. rw (enclosed_complete (ascii "'") (ascii "'") bytes q.inside (rw e at q.all), or-true (enclosed (ascii "\"") (ascii "\"") bytes)))
        q.of_mark

-- a mark in front, by the first byte
begins_one_lem : (l : List ℕ) (m : ℕ) → 0 < length l → begins (m ∷ []) l ≡ eqb (get_or l 0 0) m
unfolding begins
begins_one_lem [] m h = absurd (not-suc-le-zero h)
begins_one_lem (x ∷ s) m h = and-true (eqb x m)

-- a mark in front and a mark at the end, by the first byte and the last
enclosed_by : (bytes : List ℕ) (m : ℕ) → 2 ≤ length bytes
    → enclosed (m ∷ []) (m ∷ []) bytes ≡ eqb (get_or bytes 0 0) m && eqb (get_or bytes (length bytes - 1) 0) m
unfolding enclosed
enclosed_by bytes m h =
    let last : get_or (drop (length bytes - 1) bytes) 0 0 ≡ get_or bytes (length bytes - 1) 0 = rw (drop-cons bytes (length bytes - 1) 0 (omega arith)) in
    let some : 0 < length (drop (length bytes - 1) bytes) = omega (arith, length-drop (length bytes - 1) bytes) in
    rw (le-leb 2 (length bytes) h, begins_one_lem bytes m (omega arith), begins_one_lem (drop (length bytes - 1) bytes) m some, last)

-- so the test goes by the first byte and the last
module _ (bytes : List ℕ) (long : 2 ≤ length bytes) where
  by_ends : looks_quoted bytes
      ≡ (eqb (get_or bytes 0 0) 0x22 && eqb (get_or bytes (length bytes - 1) 0) 0x22) ||
      (eqb (get_or bytes 0 0) 0x27 && eqb (get_or bytes (length bytes - 1) 0) 0x27)
  unfolding looks_quoted
  by_ends = rw (enclosed_by bytes 0x22 long, enclosed_by bytes 0x27 long)

  pub double_mark : get_or bytes 0 0 ≡ 0x22 → eqb (get_or bytes (length bytes - 1) 0) 0x22 ≡ looks_quoted bytes
  double_mark e = rw (by_ends, e) (sym (or-false _))

  pub single_mark : get_or bytes 0 0 ≡ 0x27 → eqb (get_or bytes (length bytes - 1) 0) 0x27 ≡ looks_quoted bytes
  single_mark e = rw (by_ends, e)

  pub no_mark : (get_or bytes 0 0 ≡ 0x22 → ⊥) → (get_or bytes 0 0 ≡ 0x27 → ⊥) → false ≡ looks_quoted bytes
  no_mark n m = rw (by_ends, ne_eqb _ _ n, ne_eqb _ _ m)
