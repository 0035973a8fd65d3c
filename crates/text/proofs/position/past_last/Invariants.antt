use Rattle.laws.proofs.Prelude.{ℕ, ◌+◌, ◌≤◌, ◌<◌, ◌≡◌, get_or}
use Rattle.text.proofs.position.past_last.Given as goal

-- no LF from `last` up to `i`, and one right before `last`
abbrev pub Past : ℕ → (ℕ → ℕ) → ℕ → Type 0
Past last at i = ((k : ℕ) → last ≤ k → k < i → at k ≡ 0x0A → ⊥) × ((m : ℕ) → last ≡ m + 1 → at m ≡ 0x0A)

abbrev pub invariant-loop-i : goal.invariant-loop-i
invariant-loop-i l = (l.last ≤ l.i) × Past l.last (λ k. get_or l.block k 0) l.i
