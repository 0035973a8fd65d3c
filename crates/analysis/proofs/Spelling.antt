-- A letter ends in the text, and a word goes on from one of its letters to the next. `word_at` answers where the letters that `Spelled` asks for end.
use Rattle.std.specs.Prelude.{Some, None}
use Rattle.laws.proofs.Prelude.{◌≡◌, refl, cond, List, [], ◌∷◌, ℕ, zero, suc, ◌+◌, ◌-◌, ◌≤◌, ◌<◌, add-one, arith, eqb, length, get_or, take, drop}
use Rattle.laws.proofs.Prelude.{drop_of_length-le, drop-cons, eqb-true, eq-eqb, ne_eqb}
use lib.Dec.{eqb-suc-zero}
use Rattle.std.proofs.lemmas.List.{take_rest}
use Rattle.text.{specs.declared.utf8.Encoding.TheVariants.Utf8, specs.Utf8.code_by, specs.Utf8.char_at, specs.Characters.Stands, proofs.Ascii.ascii_one}
use Rattle.text.proofs.{Formed.fits_if, Characters.stands_sound, Characters.stands_complete}
use Rattle.analysis.specs.{Matches.Letter, Matches.Spelled}
use Rattle.analysis.specs.Letters.{fold_case, letter_at, behind, on_match, word_at}

-- a letter has no more bytes than the text
pub letter_fits : (w : ℕ) (s : List ℕ) → letter_at w s ≤ length s
unfolding letter_at char_at
letter_fits w s = fits_if Utf8 (eqb (fold_case (char_at Utf8 s).code) (fold_case w)) s

-- a byte of ASCII is a letter by its own number
pub ascii_letter : (w : ℕ) (s : List ℕ) → 0 < length s → get_or s 0 0 < 128
    → letter_at w s ≡ cond (eqb (fold_case (get_or s 0 0)) (fold_case w)) 1 0
unfolding letter_at char_at code_by
ascii_letter w s l h = rw (ascii_one Utf8 s 0 l h)

-- a word from its letter k on, which has n bytes at `at`
module _ (w s : List ℕ) (k at : ℕ) (h : k < length w) {n : ℕ} (e : n ≡ letter_at (get_or w k 0) (take (length s - at) (drop at s))) where
  there : n ≡ letter_at (get_or w k 0) (drop at s)
  there = rw take_rest at e

  pub word_misses : n ≡ 0 → word_at (drop k w) s at ≡ None
  unfolding word_at
  word_misses z = rw (drop-cons w k 0 h, ← there, eq-eqb _ _ z)

  pub word_goes_on : (n ≡ 0 → ⊥) → word_at (drop k w) s at ≡ word_at (drop (k + 1) w) s (at + n)
  unfolding word_at
  word_goes_on z = rw (add-one k, drop-cons w k 0 h, ← there, ne_eqb _ _ z)

-- and past its last letter
pub word_ends : (w s : List ℕ) (k at : ℕ) → length w ≤ k → word_at (drop k w) s at ≡ Some at
unfolding word_at
word_ends w s k at h = rw (drop_of_length-le w h)

-- a letter at a place, for every list
module _ (w : ℕ) (s : List ℕ) (at : ℕ) where
  letter_stands : (letter_at w (drop at s) ≡ 0 → ⊥) → Stands (Letter w) s at (at + letter_at w (drop at s))
  unfolding letter_at
  letter_stands = stands_sound (λ p. eqb (fold_case p) (fold_case w)) (λ p. (eqb-true (fold_case p) (fold_case w), eq-eqb (fold_case p) (fold_case w))) s at

  letter_there : {end : ℕ} → Stands (Letter w) s at end → (letter_at w (drop at s) ≡ 0 → ⊥) × (end ≡ at + letter_at w (drop at s))
  unfolding letter_at
  letter_there = stands_complete (λ p. eqb (fold_case p) (fold_case w)) (λ p. (eqb-true (fold_case p) (fold_case w), eq-eqb (fold_case p) (fold_case w))) s at

-- and a word
pub word_spelled : (w s : List ℕ) (at : ℕ) {end : ℕ} → word_at w s at ≡ Some end → Spelled s w at end
unfolding word_at
word_spelled [] s at {end} e = let p : at ≡ end = cc in rw p Spelled.none
word_spelled (w ∷ ws) s at {end} e = go (letter_at w (drop at s)) refl (λ b. word_spelled ws s b) e
  where
    go : (n : ℕ) → letter_at w (drop at s) ≡ n → ((b : ℕ) → word_at ws s b ≡ Some end → Spelled s ws b end)
        → on_match (behind at n) None (λ b. word_at ws s b) ≡ Some end → Spelled s (w ∷ ws) at end
    go zero n more f = let z : ◌≡◌ {A = ℕ} 0 1 = cc in absurd (omega arith)
    go (suc n) p more f =
        let x = letter_stands w s at (λ z. omega arith) in
        Spelled.more (rw p at x) (more (at + suc n) (rw (eqb-suc-zero n) at f))

pub spelled_word : {s w : List ℕ} {at end : ℕ} → Spelled s w at end → word_at w s at ≡ Some end
unfolding word_at
spelled_word Spelled.none = refl
spelled_word {s} (Spelled.more {w} {at} x r) =
    let (z, e) = letter_there w s at x in
    rw (ne_eqb (letter_at w (drop at s)) 0 z, ← e) (spelled_word r)
