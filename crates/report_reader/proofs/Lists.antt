-- Items of a list, read one after the other.
use Rattle.laws.proofs.Prelude.{◌≡◌, refl, ◌∙◌, List, [], ◌∷◌, ◌++◌, append_assoc, flat_map, ℕ, ◌+◌, ◌-◌, ◌≤◌, ◌<◌, arith, length}
use Rattle.laws.specs.Codec.{All}
use Rattle.report_reader.specs.code.FromFront.{Skips}

module _ {A : Type 0} (encode : A → List ℕ) (Valid : A → Type 0) (t : List ℕ) where
  -- so many valid items stand at the front of some bytes, and then t
  abbrev pub Stand : List ℕ → ℕ → List A → Type 0
  Stand s left l = (length l ≡ left) × All Valid l × (s ≡ flat_map encode l ++ t)

  -- the next item, and those behind it once it is read
  pub next_item : (s : List ℕ) (left : ℕ) (l : List A) → 0 < left → Stand s left l
      → (a : A) × (l' : List A) × (l ≡ a ∷ l') × Valid a × (s ≡ encode a ++ (flat_map encode l' ++ t))
      × ((next : List ℕ) → next ≡ flat_map encode l' ++ t → Stand next (left - 1) l')
  unfolding flat_map
  next_item s left [] h p = absurd (omega (arith, p.0))
  next_item s left (a ∷ l') h (n, v, e) = (a, l', refl, v.0, e ∙ append_assoc (encode a) (flat_map encode l') t, λ next d. (omega (arith, n), v.1, d))

  pub no_item : (s : List ℕ) (left : ℕ) (l : List A) → left ≤ 0 → Stand s left l → (l ≡ []) × (s ≡ t)
  unfolding flat_map
  no_item s left [] h p = (refl, p.2)
  no_item s left (a ∷ l') h p = absurd (omega (arith, p.0))

module _ {A : Type 0} (encode : A → List ℕ) (Valid : A → Type 0) where
  -- so many valid items are skipped
  abbrev pub SkipsMany : ℕ → List ℕ → List ℕ → Type 0
  SkipsMany n = Skips (flat_map encode) (λ l. (length l ≡ n) × All Valid l)

  pub skip_none : {n : ℕ} {s : List ℕ} → n ≤ 0 → SkipsMany n s s
  unfolding flat_map
  skip_none h [] p t e = e
  skip_none h (a ∷ l) p t e = absurd (omega (arith, p.0))

  pub skip_next : {n less : ℕ} {s between next : List ℕ} → n ≡ less + 1
      → Skips encode Valid s between → SkipsMany less between next → SkipsMany n s next
  unfolding flat_map
  skip_next more one others [] p t e = absurd (omega (arith, p.0))
  skip_next more one others (a ∷ l) p t e =
      others l (omega (arith, p.0), p.1.1) t
      (one a p.1.0 (flat_map encode l ++ t) (e ∙ append_assoc (encode a) (flat_map encode l) t))
