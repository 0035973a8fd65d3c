-- A run of ASCII is one character after the other.
use Rattle.laws.proofs.Prelude.{◌≡◌, refl, sym, true, false, ap, ◌∙◌, Bool, cond, List, ℕ, zero, suc, ◌+◌, ◌≤◌, ◌<◌, arith, add-zero, length, get_or, drop}
use Rattle.laws.proofs.Prelude.{drop-cons, le-leb}
use mir.Val.{bool_byte}
use Rattle.text.specs.declared.utf8.Encoding.{Encoding, TheVariants.Utf8}
use Rattle.text.specs.Utf8.{admits, length_by, char_length, code_by, char_at, formed}
use Rattle.text.specs.Class.{length_if}
use Rattle.text.proofs.Formed.{passed}

module _ (e : Encoding) (s : List ℕ) where
  pub ascii_one : (at : ℕ) → at < length s → get_or s at 0 < 128 → char_length e (drop at s) ≡ 1
  unfolding char_length length_by admits
  ascii_one at l h = rw (drop-cons s at 0 l) (simp (le-leb 0 (get_or s at 0) (omega arith), le-leb (get_or s at 0) 127 (omega arith)))

  pub ascii_run : (at n : ℕ) → at + n ≤ length s → ((k : ℕ) → k < n → get_or s (at + k) 0 < 128)
      → formed e 0 (drop at s) ≡ formed e 0 (drop (at + n) s)
  ascii_run at zero l h = rw add-zero
  ascii_run at (suc n) l h =
      let here : at + n < length s = omega arith in
      let one = ascii_one (at + n) here (h n (omega arith)) in
      let more : at + n + 1 ≡ at + suc n = omega arith in
      ascii_run at n (omega arith) (λ k b. h k (omega arith))
      ∙ passed e s (at + n) here 1 (sym one) (λ z. omega arith)
      ∙ ap (λ (m : ℕ). formed e 0 (drop m s)) more

-- a byte of ASCII passes where its number does
pub ascii_if : (test : ℕ → Bool) (s : List ℕ) → 0 < length s → get_or s 0 0 < 128 → {r : Bool} → r ≡ test (get_or s 0 0)
    → bool_byte r ≡ length_if test s
unfolding char_at code_by
ascii_if test s l h {r} e = rw (ascii_one Utf8 s 0 l h, ← e) (go r)
  where
    go : (r : Bool) → bool_byte r ≡ cond r 1 0
    go true = refl
    go false = refl
