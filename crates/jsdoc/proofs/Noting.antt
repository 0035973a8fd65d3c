-- The origins of the readings from the places before one, and what the reading from that place adds.
use Rattle.laws.proofs.Prelude.{◌≡◌, sym, ◌∙◌, ◌⊎◌, ⊎_elim, inl, inr, List, none-some, ℕ, ◌≤◌, ◌<◌, arith, length, drop}
use Rattle.laws.proofs.Prelude.{replicate}
use Rattle.std.specs.Prelude.{Option, Some, None}
use Rattle.analysis.specs.Mode.{Mode}
use Rattle.jsdoc.specs.Grammar.{Bytes, From}
use Rattle.jsdoc.specs.{Parsed.Parser, Parsed.value, Reader.Hit, Reader.hit, code.Origins.Origins, code.Origins.ReadsBy}
use Rattle.jsdoc.specs.{Origins.note_of}
use Rattle.jsdoc.proofs.{ReadingPlace.with_kind}
use Rattle.jsdoc.proofs.Noted.{origins_more, origins_note, origins_nothing}
use Rattle.jsdoc.proofs.Ticking.{Kind, place, found, only_one, place_below}

module _ {R : Bytes → Bytes → Bytes → Mode → Type 0} {p : Parser Hit} (K : Kind R p) (b : Bytes) (i : ℕ) (h : i < length b) where
  -- one turn: the reading from place i, if there is one, is noted
  pub origins_turn : {P : ℕ → ℕ → Type 0} {l : List ℕ} → Origins P (length b) l → ((k q : ℕ) (m : Mode) → From R b i q m → P k q → k ≤ i)
      → (o : Option Hit) → value (p (drop i b)) ≡ o
      → Origins (λ k q. P k q ⊎ ((k ≡ i) × ReadsBy R b i q)) (length b) (note_of i (drop i b) o l)
  origins_turn {P} o behind (Some (hit q e m)) is =
      let f = found K b i h is in
      let at = place K b i h q in
      origins_more
      (λ k x t. ⊎_elim inl (λ y. inr (y.0, (m, rw y.1 f))) t)
      (λ k x t. (k, omega arith, ⊎_elim inl (λ y. inr (y.0, (only_one K b i h is y.1.1).0)) t))
      (origins_note i at (place_below (with_kind f (K.reading f.reads))) o (λ k. behind k at m f))
  origins_turn {P} o behind None is =
      origins_more (λ k q x. inl x)
      (λ k q x. (k, omega arith, ⊎_elim (λ y. y) (λ y. absurd (none-some _ (sym is ∙ (K.agrees _ _ _ _).0 y.1.1.reads))) x)) o

-- the readings from the places before i
abbrev pub Early : (Bytes → Bytes → Bytes → Mode → Type 0) → Bytes → ℕ → ℕ → ℕ → Type 0
Early R b i k q = (k < i) × ReadsBy R b k q

pub early_none : {R : Bytes → Bytes → Bytes → Mode → Type 0} (b : Bytes) → Origins (Early R b 0) (length b) (replicate (length b) 0)
early_none b = origins_nothing (λ k q r. omega (arith, r.0)) (length b)
