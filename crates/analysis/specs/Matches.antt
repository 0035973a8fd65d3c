-- What it is for a row to match a part of a body, in no order and with no matcher.
use Rattle.std.specs.Prelude.{◌≡◌, Bool, List, [], ◌∷◌, ℕ, ◌≤◌, length}
use Rattle.text.specs.declared.class.Class.{Class}
use Rattle.text.specs.Characters.{OneWith, OneOf, Stands}
use Rattle.analysis.specs.declared.Capture.{Capture}
use Rattle.analysis.specs.Letters.{fold_case}
use Rattle.analysis.specs.Row.{Row, no_capture}

-- the letter w, whatever its case
abbrev pub Letter : ℕ → List ℕ → List ℕ → Type 0
Letter w = OneWith (λ p. fold_case p ≡ fold_case w)

module _ (s : List ℕ) where
  -- from one place to the other stand the letters of the word, one after the other
  pub data Spelled : List ℕ → ℕ → ℕ → Type 0 where
    none : {at : ℕ} → Spelled [] at at
    more : {w : ℕ} {ws : List ℕ} {at e end : ℕ} → Stands (Letter w) s at e → Spelled ws e end → Spelled (w ∷ ws) at end

  -- from one place to the other stand characters of the class, any number of them
  pub data Run (c : Class) : ℕ → ℕ → Type 0 where
    none : {at : ℕ} → Run c at at
    more : {at e end : ℕ} → Stands (OneOf c) s at e → Run c e end → Run c at end

  -- the row matches from one place to the other, with what is captured before it and after it
  pub data Matches : Row → ℕ → ℕ → Capture → Capture → Type 0 where
    done : {at : ℕ} {k : Capture} → Matches Row.done at at k k
    start : {r : Row} {at end : ℕ} {k l : Capture} → at ≡ 0 → Matches r at end k l → Matches (Row.start r) at end k l
    word : {w : List ℕ} {r : Row} {at e end : ℕ} {k l : Capture} → Spelled w at e
        → Matches r e end k l → Matches (Row.word w r) at end k l
    one : {c : Class} {r : Row} {at e end : ℕ} {k l : Capture} → Stands (OneOf c) s at e
        → Matches r e end k l → Matches (Row.one c r) at end k l
    longest : {c : Class} {r : Row} {at e end : ℕ} {k l : Capture} → Run c at e
        → Matches r e end k l → Matches (Row.longest c r) at end k l
    shortest : {c : Class} {r : Row} {at e end : ℕ} {k l : Capture} → Run c at e
        → Matches r e end k l → Matches (Row.shortest c r) at end k l
    from : {quoted : Bool} {r : Row} {at end : ℕ} {k l : Capture}
        → Matches r at end (record { quoted = quoted; from = at; to = k.to }) l → Matches (Row.from quoted r) at end k l
    to : {r : Row} {at end : ℕ} {k l : Capture}
        → Matches r at end (record { quoted = k.quoted; from = k.from; to = at }) l → Matches (Row.to r) at end k l
    left : {a b : Row} {at end : ℕ} {k l : Capture} → Matches a at end k l → Matches (Row.either a b) at end k l
    right : {a b : Row} {at end : ℕ} {k l : Capture} → Matches b at end k l → Matches (Row.either a b) at end k l

-- from some place of the body on the row matches, and captures k
abbrev pub RowReading : Row → List ℕ → Capture → Type 0
RowReading r s k = (at : ℕ) × (at ≤ length s) × (end : ℕ) × Matches s r at end no_capture k
