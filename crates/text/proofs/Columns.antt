-- A position counts characters: past the bytes of a code point stands the position past one character.
use Rattle.laws.proofs.Prelude.{◌≡◌, refl, ap, ◌∙◌, cond, List, [], ◌∷◌, ◌++◌, flat_map, ℕ, ◌+◌, ◌/◌, ◌%◌, ◌≤◌, ◌<◌, add-zero, arith, eqb, get_or, take}
use Rattle.laws.proofs.Prelude.{take-append_seam, le-leb, lt-leb, ne_eqb}
use Rattle.laws.proofs.Lists.{flat_map_append}
use Rattle.text.specs.{declared.position.Position.Position, declared.utf8.Encoding.TheVariants.Utf8, Encode.encode, WellFormed.WellFormed}
use Rattle.text.specs.Position.{Units, step, walk, start_position, position_of, past_character, past_characters, Counted}
use Rattle.text.proofs.{CodePoint.by_length, Cuts.boundary_iff}

module _ (unit : Units) where
  -- a byte that begins a character of several, and one that goes on with it
  leads : (p : Position) (b : ℕ) → 0xC0 ≤ b → step unit p b ≡ record { line = p.line; column = p.column + unit b }
  unfolding step
  leads p b l =
      let h : 0x80 ≤ b = omega arith in
      rw (ne_eqb b 0x0A (λ e. omega arith), le-leb 0x80 b h, lt-leb b 0xBF l)

  six_bits : (p : Position) (n : ℕ) → step unit p (0x80 + n % 64) ≡ p
  unfolding step
  six_bits p n =
      let b = 0x80 + n % 64 in
      rw (ne_eqb b 0x0A (λ e. omega arith), le-leb 0x80 b (omega arith), le-leb b 0xBF (omega arith), add-zero)

  alone : (p : Position) (b : ℕ) → b < 0x80
      → step unit p b ≡ cond (eqb b 0x0A) (record { line = p.line + 1; column = 0 }) (record { line = p.line; column = p.column + unit b })
  unfolding step
  alone p b l = rw (lt-leb 0x80 b l)

  -- past the bytes of a code point
  character : (c : ℕ) (p : Position) (s : List ℕ) → walk unit p (encode c ++ s) ≡ walk unit (past_character unit p c) s
  unfolding walk past_character
  character c p s =
      by_length (λ bs. walk unit p (bs ++ s) ≡ walk unit (past bs) s) c
      (λ l. rw (alone p c l))
      (λ l h. simp (ne_eqb c 0x0A (λ e. omega arith), leads p (0xC0 + c / 64) (omega arith), six_bits))
      (λ l h. simp (ne_eqb c 0x0A (λ e. omega arith), leads p (0xE0 + c / 4096) (omega arith), six_bits))
      (λ l. simp (ne_eqb c 0x0A (λ e. omega arith), leads p (0xF0 + c / 262144) (omega arith), six_bits))
    where
      past : List ℕ → Position
      past bs = cond (eqb c 0x0A) (record { line = p.line + 1; column = 0 }) (record { line = p.line; column = p.column + unit (get_or bs 0 0) })

  -- past those of a row
  row : (cs : List ℕ) (p : Position) → walk unit p (flat_map encode cs) ≡ past_characters unit p cs
  unfolding walk flat_map past_characters
  row [] p = refl
  row (c ∷ cs) p = character c p (flat_map encode cs) ∙ row cs (past_character unit p c)

  pub counted : (s : List ℕ) → WellFormed Utf8 s → Counted unit s
  unfolding position_of
  counted s w = record {
    places = boundary_iff s w;
    positions = λ at front back c.
        let front_of : take at s ≡ flat_map encode front =
        rw (c.place, c.text.bytes, flat_map_append) (take-append_seam (flat_map encode front) (flat_map encode back)) in
        ap (walk unit start_position) front_of ∙ row front start_position;
  }
