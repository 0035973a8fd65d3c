-- Two texts that are the same but between two places: their parts outside are equal, and so are the positions there if that at the second place is.
use Rattle.laws.proofs.Prelude.{◌≡◌, ap, sym, ◌∙◌, ◌⊎◌, inl, inr, List, ℕ, ◌+◌, ◌-◌, ◌≤◌, arith, take, drop, drop-drop}
use lib.Seq.{take-take}
use Rattle.laws.proofs.Lists.{part_part}
use Rattle.text.specs.Bytes.{part}
use Rattle.text.specs.Position.{Units, walk, start_position, position_of}
use Rattle.text.proofs.Positions.{onward}

module _ (s r : List ℕ) (a b : ℕ) (front : take a s ≡ take a r) (behind : drop b s ≡ drop b r) where
  pub part_front : (from to : ℕ) → from ≤ to → to ≤ a → part s from to ≡ part r from to
  part_front from to h l =
      sym (part_part s a from (to - from) (omega arith)) ∙ ap (λ (x : List ℕ). take (to - from) (drop from x)) front ∙
      part_part r a from (to - from) (omega arith)

  pub part_behind : (from to : ℕ) → b ≤ from → part s from to ≡ part r from to
  part_behind from to l =
      let n : b + (from - b) ≡ from = omega arith in
      ap (take (to - from)) (rw (← n, ← drop-drop (from - b) b s, ← drop-drop (from - b) b r, behind))

  pub position_outside : (unit : Units) → position_of unit s b ≡ position_of unit r b → (at : ℕ) → (at ≤ a) ⊎ (b ≤ at) →
      position_of unit s at ≡ position_of unit r at
  unfolding position_of
  position_outside unit end at (inl l) = ap (walk unit start_position) (sym (take-take at a s l) ∙ ap (take at) front ∙ take-take at a r l)
  position_outside unit end at (inr l) = sym (onward unit s b at l) ∙ rw (end, behind) (onward unit r b at l)
