-- Which ranges the ASCII characters of a class lie in.
use Rattle.laws.proofs.Prelude.{◌≡◌, refl, sym, ◌∙◌, ap, ◌||◌, ℕ, ◌<◌, arith}
use mathlib.Core.Bool.{or-false}
use Rattle.text.specs.{Alphabetic.alphabetic, WhiteSpace.white_space, Ranges.◌to◌, Ranges.within, Ranges.in_ranges}
use Rattle.text.proofs.Bounds.{among_first}

pub letters : (x : ℕ) → x < 0x80 → in_ranges alphabetic x ≡ within (0x41 to 0x5A) x || within (0x61 to 0x7A) x
unfolding in_ranges alphabetic
letters x l = sym (among_first 2 alphabetic 0x7F refl x (omega arith)) ∙ ap (within (0x41 to 0x5A) x ||◌) (or-false _)

pub blanks : (x : ℕ) → x < 0x80 → in_ranges white_space x ≡ within (0x09 to 0x0D) x || within (0x20 to 0x20) x
unfolding in_ranges
blanks x l = sym (among_first 2 white_space 0x7F refl x (omega arith)) ∙ ap (within (0x09 to 0x0D) x ||◌) (or-false _)
