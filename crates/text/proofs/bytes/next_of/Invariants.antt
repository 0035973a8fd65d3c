use Rattle.laws.proofs.Prelude.{◌≡◌, ◌-◌, length, get_or}
use Rattle.text.specs.code.Places.{Passing}
use Rattle.text.proofs.bytes.next_of.Given as goal

abbrev pub invariant-loop-i : goal.invariant-loop-i
invariant-loop-i l = Passing (λ k. get_or l.s k 0 ≡ l.b → ⊥) l.at (length l.s) l.i

abbrev pub decreases-loop-i : goal.decreases-loop-i
decreases-loop-i l = length l.s - l.i

abbrev pub invariant-loop-k : goal.invariant-loop-k
invariant-loop-k l = Passing (λ k. get_or l.s k 0 ≡ l.b → ⊥) l.at (length l.s) l.k

abbrev pub invariant-loop-k-2 : goal.invariant-loop-k-2
invariant-loop-k-2 l = Passing (λ k. get_or l.s k 0 ≡ l.b → ⊥) l.at (length l.s) l.k
