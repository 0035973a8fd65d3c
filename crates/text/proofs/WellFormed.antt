-- A text is well-formed just where the reader finds one character after the other. It is the text of one row of code points only.
use Rattle.laws.proofs.Prelude.{◌≡◌, refl, sym, ap, ◌∙◌, Bool, true, false, false≢true, List, [], ◌∷◌, ◌++◌, flat_map, ◌↔◌, ℕ, zero, suc, ◌≤◌, zero-add}
use Rattle.laws.proofs.Prelude.{arith, length, drop, length-append, drop-append_seam}
use mathlib.Core.List.{append_cancel_left}
use lib.Seq.{drop-nil}
use Rattle.laws.{specs.Codec.All, specs.code.Told.Meant, proofs.Lists.all_parts}
use Rattle.text.specs.{declared.utf8.Char.Char, declared.utf8.Encoding.Encoding, declared.utf8.Encoding.TheVariants.Utf8, Ranges.in_ranges}
use Rattle.text.specs.Utf8.{char_length, char_at, past, formed, well_formed}
use Rattle.text.specs.Encode.{encode, code_points, Lead, Trail, Paired}
use Rattle.text.specs.WellFormed.{Unpaired, WellFormed, Judges}
use Rattle.text.proofs.{CodePoint.nonempty, Formed.passed}
use Rattle.text.proofs.Reader.{unique, bounded, reader_sound, reads, no_scalar, pair_unread}

-- a code point more in front of a row without pairs
unpaired_more : (p : ℕ) (ps : List ℕ) → Unpaired ps → ((q : ℕ) (back : List ℕ) → ps ≡ q ∷ back → Lead p → Trail q → ⊥) → Unpaired (p ∷ ps)
unpaired_more p ps u first [] back r q e l m =
    let same : p ≡ r = cc in
    let behind : ps ≡ q ∷ back = cc in
    first q back behind (rw same l) m
unpaired_more p ps u first (x ∷ front) back r q e l m =
    let behind : ps ≡ front ++ r ∷ q ∷ back = cc in
    u front back r q behind l m

-- scalar values are no surrogates
pub scalars_unpaired : (ps : List ℕ) → All (λ p. in_ranges (code_points Utf8) p ≡ true) ps → Unpaired ps
scalars_unpaired ps a front back p q e l m =
    no_scalar p l.0 (omega arith) (all_parts (λ p. in_ranges (code_points Utf8) p ≡ true) front (p ∷ q ∷ back) (rw e at a)).1.0

module _ (e : Encoding) where
  abbrev Points : List ℕ → Type 0
  Points = All (λ p. in_ranges (code_points e) p ≡ true)

  -- the first code point of a row is the one that its text begins with
  pub first_point : (ps : List ℕ) → Points ps → (q : ℕ) (t : List ℕ) → q ≤ 0x10FFFF → flat_map encode ps ≡ encode q ++ t → (back : List ℕ) × (ps ≡ q ∷ back)
  unfolding flat_map
  first_point [] a q t b h = absurd (omega (arith, ap length h, length-append (encode q) t, nonempty q))
  first_point (p ∷ ps) a q t b h = let same = unique p q (flat_map encode ps) t (bounded e p a.0) b h in (ps, cc)

  -- a character in front of a text
  character_formed : (p : ℕ) (t : List ℕ) → char_at e (encode p ++ t) ≡ record { len = length (encode p); code = p }
      → formed e 0 (encode p ++ t) ≡ formed e 0 t
  unfolding char_at
  character_formed p t c =
      let n : length (encode p) ≡ char_length e (encode p ++ t) = sym (ap (λ (r : Char). r.len) c) in
      let some = nonempty p in
      passed e (encode p ++ t) 0 (omega (arith, length-append (encode p) t)) (length (encode p)) n (λ z. omega arith)
      ∙ ap (formed e 0) (rw zero-add (drop-append_seam (encode p) t))

  -- the text of a row of code points is one character after the other
  row_formed : (ps : List ℕ) → Points ps → Unpaired ps → formed e 0 (flat_map encode ps) ≡ true
  unfolding flat_map formed
  row_formed [] a u = refl
  row_formed (p ∷ ps) a u =
      let t = flat_map encode ps in
      let alone : Paired p t → ⊥ = λ w.
      let (l, q, m, v, h) = w in
      let (back, same) = first_point ps a.1 q v (omega arith) h in
      u [] back p q (ap (p ∷◌) same) l m in
      character_formed p t (reads e p t a.0 alone) ∙ row_formed ps a.1 (λ front back q r h. u (p ∷ front) back q r (ap (p ∷◌) h))

  -- a character in front of a row of code points
  character_row : (x : List ℕ) → (char_length e x ≡ 0 → ⊥) → WellFormed e (drop (char_length e x) x) → WellFormed e x
  unfolding flat_map
  character_row x some (ps, t) =
      let (p, c) = reader_sound e x some in
      let all : x ≡ encode p ++ flat_map encode ps = c.begins ∙ ap (encode p ++◌) t.bytes in (
        p ∷ ps,
        record {
          each = (c.among, t.each);
          unpaired = unpaired_more p ps t.unpaired λ q back i l m.
              some (ap (char_length e) (all ∙ ap (λ (r : List ℕ). encode p ++ flat_map encode r) i) ∙ pair_unread e p q (flat_map encode back) l m);
          bytes = all;
        },
      )

  -- what is one character after the other is the text of a row
  row_of : (s : List ℕ) (skip : ℕ) → formed e skip s ≡ true → WellFormed e (drop skip s)
  unfolding flat_map formed
  row_of [] skip f = rw drop-nil
      ([], record { each = tt; unpaired = λ front back p q h. absurd (omega (arith, ap length h, length-append front (p ∷ q ∷ back))); bytes = refl })
  row_of (x ∷ s) (suc skip) f = row_of s skip f
  row_of (x ∷ s) zero f = go (char_length e (x ∷ s)) refl f (row_of s)
    where
      go : (n : ℕ) → char_length e (x ∷ s) ≡ n → past n false (λ k. formed e k s) ≡ true → ((k : ℕ) → formed e k s ≡ true → WellFormed e (drop k s)) →
          WellFormed e (x ∷ s)
      go zero i f on = absurd (false≢true f)
      go (suc n) i f on = character_row (x ∷ s) (λ z. omega (arith, i, z)) (rw i (on n f))

  pub well_formed_iff : (x : List ℕ) → (well_formed e x ≡ true) ↔ WellFormed e x
  well_formed_iff x = (row_of x 0, λ w. let (ps, t) = w in rw t.bytes (row_formed ps t.each t.unpaired))

  -- two rows of one text are the same
  same_row : (ps qs : List ℕ) → Points ps → Points qs → flat_map encode ps ≡ flat_map encode qs → ps ≡ qs
  unfolding flat_map
  same_row [] [] a b h = refl
  same_row [] (q ∷ qs) a b h = absurd (omega (arith, ap length h, length-append (encode q) (flat_map encode qs), nonempty q))
  same_row (p ∷ ps) [] a b h = absurd (omega (arith, ap length h, length-append (encode p) (flat_map encode ps), nonempty p))
  same_row (p ∷ ps) (q ∷ qs) a b h =
      let same = unique p q (flat_map encode ps) (flat_map encode qs) (bounded e p a.0) (bounded e q b.0) h in
      let behind = same_row ps qs a.1 b.1 (append_cancel_left (encode p) (flat_map encode ps) (flat_map encode qs) (rw (← same) at h)) in
      cc

  -- the answer of the reader, and what it says
  pub judged : (x : List ℕ) {r : Bool} → r ≡ well_formed e x → Meant (r ≡ well_formed e x) (Judges e x r)
  judged x i = record {
    answer = i;
    meaning = record { exactly = rw i (well_formed_iff x); one_row = λ ps qs t u. same_row ps qs t.each u.each (sym t.bytes ∙ u.bytes) };
  }
