-- The bytes that a row admits are exactly the encodings of its code points. Each row is built byte by byte, and one law adds a byte.
use Rattle.laws.proofs.Prelude.{◌≡◌, refl, true, false≢true, and-eq-true_iff, List, [], ◌∷◌, ◌++◌, append-nil, append_assoc, ℕ, zero, suc, ◌+◌, ◌-◌, ◌*◌}
use Rattle.laws.proofs.Prelude.{◌/◌, ◌%◌, ◌≤◌, ◌<◌, zero-add, arith, length, drop, length-append, drop-drop, lt-ltb, le-ltb}
use native.Mathlib.Nat.{div-div-eq-div-mul}
use lib.Seq.{drop-length, drop_at}
use Rattle.laws.specs.Codec.{All}
use Rattle.text.specs.declared.utf8.Encoding.{Encoding, TheVariants.Utf8, TheVariants.Wtf8}
use Rattle.text.specs.Ranges.{Range, ◌to◌, within}
use Rattle.text.specs.Utf8.{admits, continuation, surrogate, lead_surrogate, trail_surrogate, rows, besides}
use Rattle.text.specs.Encode.{encode, Exact, RowExact}
use Rattle.text.proofs.{WithinRange.within_iff, RangesAdmit.admits_append}

-- one byte of a range
starts : (lo hi : ℕ) (s : List ℕ) → admits ((lo to hi) ∷ []) s ≡ true → (x : ℕ) × (lo ≤ x) × (x ≤ hi) × (s ≡ x ∷ drop 1 s)
unfolding admits
starts lo hi [] t = absurd (false≢true t)
starts lo hi (x ∷ s) t =
    let b = (within_iff lo hi x).0 ((and-eq-true_iff (within (lo to hi) x) true).0 t).0 in
    (x, b.0, b.1, refl)

started : (lo hi x : ℕ) (s : List ℕ) → lo ≤ x → x ≤ hi → admits ((lo to hi) ∷ []) (x ∷ s) ≡ true
unfolding admits
started lo hi x s l h = rw ((within_iff lo hi x).1 (l, h))

-- a number in a byte that marks the length, and n bytes of six bits
abbrev code : ℕ → ℕ → ℕ → List ℕ
code mark zero p = (mark + p) ∷ []
code mark (suc n) p = code mark n (p / 64) ++ (0x80 + p % 64) ∷ []

-- the texts that begin with bytes that the ranges admit are those that begin with the code of a number from the first to the last
record Coded (mark n first last : ℕ) (rs : List Range) : Type 0 where
  only : (s : List ℕ) → admits rs s ≡ true → (p : ℕ) × (first ≤ p) × (p ≤ last) × (s ≡ code mark n p ++ drop (length rs) s)
  all : (p : ℕ) → first ≤ p → p ≤ last → (t : List ℕ) → admits rs (code mark n p ++ t) ≡ true
  size : (p : ℕ) → length (code mark n p) ≡ length rs

-- the first byte
lead : (mark first last : ℕ) → Coded mark 0 first last (((mark + first) to (mark + last)) ∷ [])
lead mark first last = record {
  only = λ s t.
      let b = starts (mark + first) (mark + last) s t in
      let e : mark + (b.0 - mark) ≡ b.0 = omega arith in
      (b.0 - mark, omega arith, omega arith, cc);
  all = λ p l h t. started (mark + first) (mark + last) (mark + p) t (omega arith) (omega arith);
  size = λ p. refl;
}

module _ {mark n first last : ℕ} {rs : List Range} (c : Coded mark n first last rs) where
  -- one byte more, its six bits from lo to hi: less than all of them only behind the bytes of a single number
  next : (lo hi : ℕ) → (hi < 64) × ((p : ℕ) → first * 64 + lo ≤ p → p ≤ last * 64 + hi → (lo ≤ p % 64) × (p % 64 ≤ hi))
      → Coded mark (suc n) (first * 64 + lo) (last * 64 + hi) (rs ++ ((0x80 + lo) to (0x80 + hi)) ∷ [])
  next lo hi bits = record {
    only = λ s t.
        let r : List Range = ((0x80 + lo) to (0x80 + hi)) ∷ [] in
        let both = (and-eq-true_iff (admits rs s) (admits r (drop (length rs) s))).0 (rw admits_append at t) in
        let a = c.only s both.0 in
        let b = starts (0x80 + lo) (0x80 + hi) (drop (length rs) s) both.1 in
        let p = a.0 * 64 + (b.0 - 0x80) in
        let e1 : p / 64 ≡ a.0 = omega arith in
        let e2 : 0x80 + p % 64 ≡ b.0 = omega arith in (
          p,
          omega arith,
          omega arith,
          cc (append_assoc (code mark n a.0) (b.0 ∷ []) (drop 1 (drop (length rs) s)), drop-drop 1 (length rs) s, length-append rs r),
        );
    all = λ p l h t.
        let b = bits.1 p l h in
        rw (append_assoc, admits_append, c.all (p / 64) (omega arith) (omega arith) _)
        (rw (drop_at (code mark n (p / 64)) _ (length rs) (c.size (p / 64)))
        (started (0x80 + lo) (0x80 + hi) (0x80 + p % 64) t (omega arith) (omega arith)));
    size = λ p. simp (length-append, c.size (p / 64));
  }

  more : Coded mark (suc n) (first * 64 + 0) (last * 64 + 0x3F) (rs ++ continuation ∷ [])
  more = next 0 0x3F (omega arith)

  -- where its code is the encoding, a row is exact
  exactly : ((p : ℕ) → first ≤ p → p ≤ last → encode p ≡ code mark n p) → Exact first last rs
  exactly e = record {
    only = λ bs k t.
        let a = c.only bs t in
        (a.0, a.1, a.2, cc (drop-length bs, append-nil (code mark n a.0), e a.0 a.1 a.2));
    all = λ p l h. rw (e p l h) (rw append-nil at (c.all p l h []), c.size p);
  }

module _ {first last : ℕ} {rs : List Range} where
  one : Coded 0 0 first last rs → last < 0x80 → Exact first last rs
  unfolding encode
  one c b = exactly c λ p l h. simp (lt-ltb p 0x80 (omega arith), zero-add)

  two : Coded 0xC0 1 first last rs → (0x80 ≤ first) × (last < 0x800) → Exact first last rs
  unfolding encode
  two c b = exactly c λ p l h. simp (le-ltb p 0x80 (omega arith), lt-ltb p 0x800 (omega arith))

  three : Coded 0xE0 2 first last rs → (0x800 ≤ first) × (last < 0x10000) → Exact first last rs
  unfolding encode
  three c b = exactly c λ p l h.
      simp (le-ltb p 0x80 (omega arith), le-ltb p 0x800 (omega arith), lt-ltb p 0x10000 (omega arith), div-div-eq-div-mul)

  four : Coded 0xF0 3 first last rs → 0x10000 ≤ first → Exact first last rs
  unfolding encode
  four c b = exactly c λ p l h.
      simp (le-ltb p 0x80 (omega arith), le-ltb p 0x800 (omega arith), le-ltb p 0x10000 (omega arith), div-div-eq-div-mul)

-- the rows of a table, one after the other
infixr 40 ◌then◌
◌then◌ : {A B : Type 0} → A → B → A × B
a then b = (a, b)

pub surrogates : Exact 0xD800 0xDFFF surrogate
surrogates = three (more (next (lead 0xE0 0xD 0xD) 0x20 0x3F (omega arith))) (omega arith)

pub exact : (e : Encoding) → All RowExact (rows e)
exact e =
    one (lead 0x00 0x00 0x7F) (omega arith)
    then two (more (lead 0xC0 0x02 0x1F)) (omega arith)
    then three (more (next (lead 0xE0 0x0 0x0) 0x20 0x3F (omega arith))) (omega arith)
    then three (more (more (lead 0xE0 0x1 0xC))) (omega arith)
    then three (more (next (lead 0xE0 0xD 0xD) 0x00 0x1F (omega arith))) (omega arith)
    then three (more (more (lead 0xE0 0xE 0xF))) (omega arith)
    then four (more (more (next (lead 0xF0 0x0 0x0) 0x10 0x3F (omega arith)))) (omega arith)
    then four (more (more (more (lead 0xF0 0x1 0x3)))) (omega arith)
    then four (more (more (next (lead 0xF0 0x4 0x4) 0x00 0x0F (omega arith)))) (omega arith)
    then also e
  where
    also : (e : Encoding) → All RowExact (besides e)
    also Utf8 = tt
    also Wtf8 = tt then surrogates then tt

-- so are the two halves of the surrogates' row
pub leads : Exact 0xD800 0xDBFF lead_surrogate
leads = three (more (next (lead 0xE0 0xD 0xD) 0x20 0x2F (omega arith))) (omega arith)

pub trails : Exact 0xDC00 0xDFFF trail_surrogate
trails = three (more (next (lead 0xE0 0xD 0xD) 0x30 0x3F (omega arith))) (omega arith)
