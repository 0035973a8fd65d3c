-- Where a well-formed text may be cut: at its character boundaries, which are the places behind a row of its characters.
use Rattle.laws.proofs.Prelude.{◌≡◌, refl, sym, ap, ◌∙◌, Bool, true, false, true≢false, List, [], ◌∷◌, ◌++◌, append-nil, append_assoc, flat_map, ◌↔◌, ℕ}
use Rattle.laws.proofs.Prelude.{zero, suc, ◌+◌, ◌-◌, ◌/◌, ◌%◌, ◌≤◌, ◌<◌, add-zero, arith, ltb, length, get_or, take, drop, length-append, length-drop}
use Rattle.laws.proofs.Prelude.{drop-cons, get_or-drop, take-append_seam, drop-append_seam, le-leb, lt-leb, ltb-true, ltb-false}
use lib.Seq.{get_or-append-add}
use Rattle.laws.{specs.Codec.All, proofs.Lists.flat_map_append, proofs.Lists.all_parts}
use Rattle.text.specs.{declared.utf8.Char.Char, declared.utf8.Encoding.Encoding, declared.utf8.Encoding.TheVariants.Utf8, Bytes.part}
use Rattle.text.specs.{Ranges.within, Ranges.in_ranges, WellFormed.TextOf, WellFormed.WellFormed, Position.Boundary, Position.Cut}
use Rattle.text.specs.Utf8.{admits, continuation, length_by, char_length, char_at, formed}
use Rattle.text.specs.Encode.{encode, encode2, encode3, encode4, code_points}
use Rattle.text.proofs.{CodePoint.by_length, Formed.fits, Reader.bounded, Reader.reader_sound, WellFormed.first_point, WellFormed.well_formed_iff}

-- ---- the bytes of a code point

-- the first byte of an encoding goes on with no character
begins_one_lem : (p : ℕ) (t : List ℕ) → within continuation (get_or (encode p ++ t) 0 0) ≡ false
begins_one_lem p t =
    by_length (λ bs. within continuation (get_or (bs ++ t) 0 0) ≡ false) p
    (λ l. rw (lt-leb 0x80 p l))
    (λ l h. behind (0xC0 + p / 64) (omega arith))
    (λ l h. behind (0xE0 + p / 4096) (omega arith))
    (λ l. behind (0xF0 + p / 262144) (omega arith))
  where
    behind : (b : ℕ) → 0xC0 ≤ b → within continuation b ≡ false
    behind b l = rw (le-leb 0x80 b (omega arith), lt-leb b 0xBF l)

-- and each other byte does
six_bits : (n : ℕ) → within continuation (0x80 + n % 64) ≡ true
six_bits n = rw (le-leb 0x80 (0x80 + n % 64) (omega arith), le-leb (0x80 + n % 64) 0xBF (omega arith))

inner : (p : ℕ) (t : List ℕ) (q : ℕ) → 0 < q → q < length (encode p) → within continuation (get_or (encode p ++ t) q 0) ≡ true
inner p t =
    by_length (λ bs. (q : ℕ) → 0 < q → q < length bs → within continuation (get_or (bs ++ t) q 0) ≡ true) p
    (λ l q z h. absurd (omega arith))
    (λ l h. two)
    (λ l h. three)
    (λ l. four)
  where
    two : (q : ℕ) → 0 < q → q < 2 → within continuation (get_or (encode2 p ++ t) q 0) ≡ true
    two zero z h = absurd (omega arith)
    two (suc zero) z h = six_bits p
    two (suc (suc q)) z h = absurd (omega arith)

    three : (q : ℕ) → 0 < q → q < 3 → within continuation (get_or (encode3 p ++ t) q 0) ≡ true
    three zero z h = absurd (omega arith)
    three (suc zero) z h = six_bits (p / 64)
    three (suc (suc zero)) z h = six_bits p
    three (suc (suc (suc q))) z h = absurd (omega arith)

    four : (q : ℕ) → 0 < q → q < 4 → within continuation (get_or (encode4 p ++ t) q 0) ≡ true
    four zero z h = absurd (omega arith)
    four (suc zero) z h = six_bits (p / 4096)
    four (suc (suc zero)) z h = six_bits (p / 64)
    four (suc (suc (suc zero))) z h = six_bits p
    four (suc (suc (suc (suc q)))) z h = absurd (omega arith)

-- ---- rows of code points

-- the two parts of a row
module _ (e : Encoding) (front back : List ℕ) {x : List ℕ} (t : TextOf e (front ++ back) x) where
  parts : All (λ p. in_ranges (code_points e) p ≡ true) front × All (λ p. in_ranges (code_points e) p ≡ true) back
  parts = all_parts (λ p. in_ranges (code_points e) p ≡ true) front back t.each

  front_text : TextOf e front (flat_map encode front)
  front_text = record {
    each = parts.0;
    unpaired = λ f b p q h. t.unpaired f (b ++ back) p q (ap (◌++ back) h ∙ append_assoc f (p ∷ q ∷ b) back);
    bytes = refl;
  }

  back_text : TextOf e back (flat_map encode back)
  back_text = record {
    each = parts.1;
    unpaired = λ f b p q h. t.unpaired (front ++ f) b p q (ap (front ++◌) h ∙ sym (append_assoc front f (p ∷ q ∷ b)));
    bytes = refl;
  }

-- a boundary of its text parts a row in two
abbrev Parted : List ℕ → ℕ → Type 0
Parted ps at = (front : List ℕ) × (back : List ℕ) × (ps ≡ front ++ back) × (at ≡ length (flat_map encode front))

cut_row : (ps : List ℕ) (at : ℕ) → Boundary (flat_map encode ps) at → Parted ps at
unfolding flat_map
cut_row [] at b = ([], [], refl, omega arith)
cut_row (p ∷ ps) at b = go (ltb at (length (encode p))) refl at refl (cut_row ps)
  where
    t : List ℕ
    t = flat_map encode ps

    more : (n : ℕ) → at ≡ length (encode p) + n → Parted ps n → Parted (p ∷ ps) at
    more n there (front, back, e, k) = (p ∷ front, back, ap (p ∷◌) e, omega (arith, there, k, length-append (encode p) (flat_map encode front)))

    go : (short : Bool) → ltb at (length (encode p)) ≡ short → (k : ℕ) → at ≡ k → ((at : ℕ) → Boundary t at → Parted ps at) → Parted (p ∷ ps) at
    go true h zero e on = ([], p ∷ ps, refl, e)
    go true h (suc k) e on =
        absurd (true≢false (sym (inner p t at (omega arith) (ltb-true at (length (encode p)) h)) ∙ b.1))
    go false h k e on =
        let l = ltb-false at (length (encode p)) h in
        let n = at - length (encode p) in
        let there : at ≡ length (encode p) + n = omega arith in
        let byte : within continuation (get_or t n 0)
        ≡ false = sym (ap (within continuation) (ap (λ (i : ℕ). get_or (encode p ++ t) i 0) there ∙ get_or-append-add (encode p) t n 0)) ∙ b.1 in
        more n there (on n (omega (arith, b.0, length-append (encode p) t), byte))

-- and where it is parted stands a boundary
seam : (front back : List ℕ) → Boundary (flat_map encode front ++ flat_map encode back) (length (flat_map encode front))
unfolding flat_map
seam front back = (
  omega (arith, length-append (flat_map encode front) (flat_map encode back)),
  rw (rw add-zero at (get_or-append-add (flat_map encode front) (flat_map encode back) 0 0)) (next back),
)
  where
    next : (back : List ℕ) → within continuation (get_or (flat_map encode back) 0 0) ≡ false
    next [] = refl
    next (p ∷ ps) = begins_one_lem p (flat_map encode ps)

-- ---- boundaries

module _ (s : List ℕ) (w : WellFormed Utf8 s) where
  cut : (at : ℕ) → Boundary s at → (front : List ℕ) × (back : List ℕ) × Cut s at front back
  cut at b =
      let (ps, t) = w in
      let (front, back, e, k) = cut_row ps at (rw t.bytes at b) in
      (front, back, record { text = rw e at t; place = k })

  pub boundary_iff : (at : ℕ) → Boundary s at ↔ ((front : List ℕ) × (back : List ℕ) × Cut s at front back)
  boundary_iff at = (cut at, λ (front, back, c). rw (c.place, c.text.bytes, flat_map_append) (seam front back))

-- behind a boundary of a text
module _ {s : List ℕ} {at : ℕ} {front back : List ℕ} (c : Cut s at front back) where
  -- stands the text of the rest of the row
  behind : drop at s ≡ flat_map encode back
  behind = rw (c.place, c.text.bytes, flat_map_append) (drop-append_seam (flat_map encode front) (flat_map encode back))

  rest : TextOf Utf8 back (flat_map encode back)
  rest = back_text Utf8 front back c.text

  -- behind one character more stands the next boundary
  past_one : (q : ℕ) (t : List ℕ) → q ≤ 0x10FFFF → drop at s ≡ encode q ++ t → Boundary s (at + length (encode q))
  unfolding flat_map
  past_one q t b e =
      let (last, is) = first_point Utf8 back rest.each q t b (sym behind ∙ e) in
      let row : front ++ back ≡ (front ++ q ∷ []) ++ last = ap (front ++◌) is ∙ sym (append_assoc front (q ∷ []) last) in
      (boundary_iff s (front ++ back, c.text) (at + length (encode q))).1 (
        front ++ q ∷ [],
        last,
        record { text = rw row at c.text; place = rw (flat_map_append, length-append, ← c.place, append-nil) },
      )

  -- and what stands between it and a later one is well-formed
  up_to : (n : ℕ) → Boundary (drop at s) n → formed Utf8 0 (take n (drop at s)) ≡ true
  up_to n b = go (cut_row back n (rw behind at b))
    where
      go : Parted back n → formed Utf8 0 (take n (drop at s)) ≡ true
      go (mid, last, e, k) =
          let is : take n (drop at s) ≡ flat_map encode mid =
          rw (behind, k, e, flat_map_append) (take-append_seam (flat_map encode mid) (flat_map encode last)) in
          rw is ((well_formed_iff Utf8 (flat_map encode mid)).1 (mid, front_text Utf8 mid last (rw e at rest)))

module _ (s : List ℕ) (f : formed Utf8 0 s ≡ true) where
  w : WellFormed Utf8 s
  w = (well_formed_iff Utf8 s).0 f

  -- a character of n bytes stands between two boundaries
  pub between : (p n : ℕ) → n ≡ char_length Utf8 (drop p s) → (n ≡ 0 → ⊥) → Boundary s p × Boundary s (p + n)
  unfolding char_at
  between p n e z =
      let (q, c) = reader_sound Utf8 (drop p s) (λ none. z (e ∙ none)) in
      let long : n ≡ length (encode q) = e ∙ ap (λ (r : Char). r.len) c.read in
      let inside : p + n ≤ length s = omega (arith, z, fits Utf8 (drop p s), length-drop p s) in
      let first : within continuation (get_or (drop p s) 0 0) ≡ false = rw c.begins (begins_one_lem q (drop (char_length Utf8 (drop p s)) (drop p s))) in
      let start : Boundary s p = (omega arith, rw (get_or-drop, add-zero) at first) in
      (start, rw long (past_next q (drop (char_length Utf8 (drop p s)) (drop p s)) (bounded Utf8 q c.among) c.begins (cut s w p start)))
    where
      past_next : (q : ℕ) (t : List ℕ) → q ≤ 0x10FFFF → drop p s ≡ encode q ++ t → (front : List ℕ) × (back : List ℕ) × Cut s p front back
          → Boundary s (p + length (encode q))
      past_next q t b e (front, back, c) = past_one c q t b e

  -- an ASCII byte is a character
  pub ascii_between : (p : ℕ) → p < length s → get_or s p 0 < 0x80 → Boundary s p × Boundary s (p + 1)
  unfolding char_length length_by admits
  ascii_between p l a = between p 1 (rw (drop-cons s p 0 l, le-leb 0 (get_or s p 0) (omega arith), le-leb (get_or s p 0) 0x7F (omega arith))) (λ z. omega arith)

  -- what stands between two boundaries is well-formed
  pub part_formed : (p q : ℕ) → p ≤ q → Boundary s p → Boundary s q → formed Utf8 0 (part s p q) ≡ true
  part_formed p q h b d =
      let there : p + (q - p) ≡ q = omega arith in
      up_to (cut s w p b).2 (q - p) (omega (arith, length-drop p s, d.0), rw (get_or-drop, there) d.1)
