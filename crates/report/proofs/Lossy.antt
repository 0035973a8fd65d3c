-- A text character by character, as it is written with U+FFFD for each surrogate.
use Rattle.laws.proofs.Prelude.{◌≡◌, refl, Bool, true, false, ◌&&◌, List, [], ◌∷◌, ℕ, ◌≤◌, arith, length, get_or, drop, drop-cons, drop_of_length-le}
use Rattle.laws.proofs.Prelude.{eqb-true, suc}
use Rattle.std.proofs.lemmas.List.{take_rest}
use Rattle.text.specs.Ranges.{◌to◌, within}
use Rattle.text.specs.Utf8.{admits, surrogate, continuation}
use Rattle.text.specs.Lossy.{lossy, replaced, replacing}
use Rattle.text.specs.code.Places.{First}
use Rattle.text.proofs.Replaced.{marked, marked_count, copied, copied_count, none_left, nowhere, exact_lossy}
use Rattle.text.proofs.WithinRange.{within_iff}

-- at the end nothing is left to be written
pub none_written : (s : List ℕ) (i : ℕ) → length s ≤ i → lossy (drop i s) ≡ []
unfolding replacing
none_written s i h = rw (drop_of_length-le s h)

pub ruleset characters_left = (marked, marked_count, copied, copied_count, none_left, none_written, take_rest)

-- a surrogate begins with 0xED
apart : (x : ℕ) (t : List ℕ) → (x ≡ 0xED → ⊥) → admits surrogate (x ∷ t) ≡ false
unfolding admits
apart x t n = go (within (0xED to 0xED) x) refl
  where
    go : (b : Bool) → within (0xED to 0xED) x ≡ b → b && admits ((0xA0 to 0xBF) ∷ continuation ∷ []) t ≡ false
    go true e = let w = (within_iff 0xED 0xED x).0 e in absurd (n (omega (arith, w.0, w.1)))
    go false e = refl

-- a text with no such byte is its own lossy text
pub plain : (s : List ℕ) → First 0xED s 0 (length s) → (lossy s ≡ s) × (replaced s ≡ 0)
plain s f =
    let e = nowhere s (λ i l. rw (drop-cons s i 0 l) (apart (get_or s i 0) (drop (suc i) s) (f.passed.each i (omega arith) l))) in
    (exact_lossy s e, eqb-true (replaced s) 0 e)
