-- A comment that is alike in two sources gives the same JSDoc imports in both, with the same origins.
use Rattle.std.specs.Prelude.{Some}
use Rattle.laws.proofs.Prelude.{◌≡◌, refl, ap, sym, ◌∙◌, List, [], ◌∷◌, ℕ, zero, suc, ◌+◌, zero-add, add-zero, add-one, arith, get_or}
use native.Mathlib.Nat.{add-suc, suc-add}
use Rattle.wire.specs.Fields.{value_of}
use Rattle.analysis.specs.Mode.{Mode}
use Rattle.jsdoc.{specs.Grammar.Reading, specs.Grammar.From, proofs.ReadingPlace.place_quote}
use Rattle.sheet.specs.{declared.comments.Comment.Comment, declared.names.MediaType.MediaType, Fit.Placed, Lookups.body_span, Lookups.body}
use Rattle.sheet.proofs.Revised.{Alike, alike_within}
use Rattle.report.{specs.Decode.modes, proofs.Modes.mode_numbers}
use Rattle.jsdoc_list.specs.Imports.{ticked_by, ticked_by_all, ticks_of, import_at, imports_from, jsdoc_imports}
use Rattle.jsdoc_list.specs.{ByComment.given_by, Origins.origins_of}
use Rattle.jsdoc_list.proofs.{Ticking.ReadIn, Ticking.ticks_of_lem, ByComment.fit_one}
use Rattle.jsdoc_list.proofs.Quotes.{import_of, reading_starts, reading_import}

-- ticks whose imports are the same in two sources
imports_kept : (s r ticks : List ℕ) (q : ℕ)
    → ((d m : ℕ) → get_or ticks d 0 ≡ m + 1 → import_at s (q + d) (value_of modes m) ≡ import_at r (q + d) (value_of modes m))
    → imports_from s q ticks ≡ imports_from r q ticks
unfolding imports_from
imports_kept s r [] q h = refl
imports_kept s r (zero ∷ ticks) q h = imports_kept s r ticks (suc q) (λ d m e. rw (suc-add, ← add-suc) (h (suc d) m e))
imports_kept s r (suc n ∷ ticks) q h =
    let here : import_at s q (value_of modes n) ≡ import_at r q (value_of modes n) = rw add-zero at (h 0 n (sym (add-one n))) in
    rw (here, imports_kept s r ticks (suc q) (λ d m e. rw (suc-add, ← add-suc) (h (suc d) m e)))

module _ {s r : List ℕ} {c : Comment} (a : Alike s r c) where
  -- a reading of the body is reported alike
  reading_kept : {k j : ℕ} {mode : Mode} → From Reading (body s c) k j mode
      → import_at s ((body_span c).start + j) mode ≡ import_at r ((body_span c).start + j) mode
  reading_kept {j = j} {mode = mode} x =
      let w = a.within in
      let start = (body_span c).start in
      let rises = reading_starts s c w refl x in
      let from = a.position (start + j) (omega arith) (omega (arith, x.inside, w.long, w.order)) in
      let to = a.position (start + x.end) (omega arith) (omega (arith, x.inside, w.long, w.order)) in
      let same : import_of s (start + j) (start + x.end) (place_quote x.reads).0 mode
      ≡ import_of r (start + j) (start + x.end) (place_quote x.reads).0 mode = rw (from, to) in
      reading_import s c w refl x ∙ ap Some same ∙ sym (reading_import r c (alike_within a) (sym a.same_body) x)

  read_in_kept : (q : ℕ) (mode : Mode) → ReadIn s (c ∷ []) q mode → import_at s q mode ≡ import_at r q mode
  read_in_kept q mode (zero, h, (o, j, e, (k, x))) = rw e (reading_kept x)
  read_in_kept q mode (suc i, h, x) = absurd (omega arith)

  ticks_kept : ticks_of s (c ∷ []) ≡ ticks_of r (c ∷ [])
  unfolding ticked_by_all ticked_by
  ticks_kept = rw (a.same_body, a.size)

  pub origins_kept : origins_of s c ≡ origins_of r c
  unfolding origins_of
  origins_kept = rw a.same_body

  module _ (p : Placed s c) where
    each_kept : (d m : ℕ) → get_or (ticks_of s (c ∷ [])) d 0 ≡ m + 1 → import_at s (0 + d) (value_of modes m) ≡ import_at r (0 + d) (value_of modes m)
    each_kept d m h =
        let (mode, is, x) = (ticks_of_lem (c ∷ []) (fit_one p)).sound d m h in
        let same : mode ≡ value_of modes m = sym (mode_numbers.back mode) ∙ ap (value_of modes) is in
        rw (zero-add, ← same) (read_in_kept d mode x)

    pub given_kept : (media : MediaType) → given_by media s c ≡ given_by media r c
    unfolding jsdoc_imports
    given_kept media = rw (imports_kept s r (ticks_of s (c ∷ [])) 0 each_kept, ticks_kept)
