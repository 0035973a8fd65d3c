-- The value at which each row ends, and whether marks stand around what it captures.
use Rattle.laws.proofs.Prelude.{◌≡◌, refl, true, false, ◌⊎◌, inl, inr, List, ℕ}
use Rattle.analysis.specs.{declared.Capture.Capture, Row.Row, Matches.Matches}
use Rattle.analysis.specs.Patterns.{quoted, quoted_some, bare, attribute_row, jsx_row, source_mapping_url_row, pragma_row, deno_types_row}

module _ (s : List ℕ) where
  -- from some place to `end` the row matches, with what is captured before it and after it
  abbrev pub EndsIn : Row → ℕ → Capture → Capture → Type 0
  EndsIn r end k l = (at : ℕ) × Matches s r at end k l

  module _ {at end : ℕ} {k l : Capture} where
    pub attribute_value : {w : List ℕ} → Matches s (attribute_row w) at end k l → EndsIn quoted end k l
    attribute_value (Matches.one _ (Matches.word _ (Matches.longest _ (Matches.word _ (Matches.longest {e = b} _ m))))) = (b, m)

    pub jsx_value : {w : List ℕ} → Matches s (jsx_row w) at end k l → EndsIn bare end k l
    jsx_value (Matches.start _ (Matches.longest _ (Matches.word _ (Matches.one _ (Matches.longest {e = b} _ m))))) = (b, m)

    pub source_value : Matches s source_mapping_url_row at end k l → EndsIn bare end k l
    source_value (Matches.start _ (Matches.one _ (Matches.longest _ (Matches.word _ (Matches.longest _ (Matches.word _ (Matches.longest {e = b} _ m))))))) =
        (b, m)

    pub pragma_value : {w : List ℕ} → Matches s (pragma_row w) at end k l → EndsIn quoted_some end k l
    pragma_value (Matches.start _ (Matches.longest _ (Matches.word _ (Matches.longest _ (Matches.word _ (Matches.longest {e = b} _ m)))))) = (b, m)

    pub deno_value : Matches s deno_types_row at end k l → EndsIn quoted_some end k l ⊎ EndsIn bare end k l
    deno_value (Matches.start _ (Matches.longest _ (Matches.word _ (Matches.longest _ (Matches.word _ (Matches.longest {e = b} _ (Matches.left m))))))) =
        inl (b, m)
    deno_value (Matches.start _ (Matches.longest _ (Matches.word _ (Matches.longest _ (Matches.word _ (Matches.longest {e = b} _ (Matches.right m))))))) =
        inr (b, m)

  -- the values
  pub quoted_marks : {at end : ℕ} {k l : Capture} → Matches s quoted at end k l → l.quoted ≡ true
  quoted_marks (Matches.one _ (Matches.from (Matches.longest _ (Matches.to (Matches.one _ Matches.done))))) = refl

  pub some_marks : {at end : ℕ} {k l : Capture} → Matches s quoted_some at end k l → l.quoted ≡ true
  some_marks (Matches.one _ (Matches.from (Matches.one _ (Matches.longest _ (Matches.to (Matches.one _ Matches.done)))))) = refl

  pub bare_marks : {at end : ℕ} {k l : Capture} → Matches s bare at end k l → l.quoted ≡ false
  bare_marks (Matches.from (Matches.one _ (Matches.longest _ (Matches.to Matches.done)))) = refl
