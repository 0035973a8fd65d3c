-- The body of a comment lies within the comment. In a well-formed source it is well-formed, and its boundaries are boundaries of the source.
use Rattle.laws.proofs.Prelude.{◌≡◌, refl, sym, ap, ◌∙◌, Bool, true, false, List, [], ◌∷◌, ◌++◌, append_assoc, ℕ, ◌+◌, ◌-◌, ◌≤◌, ◌<◌, sub-zero, arith, ltb}
use Rattle.laws.proofs.Prelude.{length, get_or, take, drop, length-append, length-take, length-drop, drop-drop, ltb-true, ltb-false}
use lib.ListN.{take-append-drop, get_or-append}
use lib.Seq.{get_or_at, drop-append-le}
use Rattle.std.proofs.lemmas.List.Edits.{get_or-between}
use Rattle.text.specs.{declared.utf8.Encoding.TheVariants.Utf8, Utf8.formed, Position.Boundary}
use Rattle.text.proofs.Cuts.{ascii_between, part_formed}
use Rattle.sheet.specs.{declared.comments.Comment.Comment, Fit.Placed}
use Rattle.sheet.specs.Comments.{slice, opening, closing}
use Rattle.sheet.specs.Lookups.{HoldsMarks, body_span, body}
use Rattle.sheet.proofs.{Members.placed_within, Marks.fenced, Marks.holds_marks_lem}

-- the body lies within the comment, and the comment within the source
pub record BodyWithin (source : List ℕ) (c : Comment) : Type 0 where
  pub start : c.span.start ≤ (body_span c).start
  pub order : (body_span c).start ≤ (body_span c).end
  pub end : (body_span c).end ≤ c.span.end
  pub source_end_lem : c.span.end ≤ length source
  pub long : length (body source c) ≡ (body_span c).end - (body_span c).start

pub body_within : (source : List ℕ) (c : Comment) → HoldsMarks c → c.span.end ≤ length source → BodyWithin source c
unfolding body_span
body_within source c room last = record {
  start = omega arith;
  order = omega arith;
  end = omega arith;
  source_end_lem = last;
  long = omega (arith, length-take ((body_span c).end - (body_span c).start) (drop (body_span c).start source), length-drop (body_span c).start source);
}

pub placed_body : (source : List ℕ) (c : Comment) → Placed source c → BodyWithin source c
placed_body source c p = body_within source c (holds_marks_lem source c p) (placed_within source c p)

-- the source from a place of the body on is the body from there on, and then what follows the body
pub body_then : (source : List ℕ) (c : Comment) → BodyWithin source c → (j : ℕ) → j ≤ length (body source c)
    → drop ((body_span c).start + j) source ≡ drop j (body source c) ++ drop ((body_span c).end - (body_span c).start) (drop (body_span c).start source)
body_then source c w j h =
    let rest = drop (body_span c).start source in
    let n = (body_span c).end - (body_span c).start in
    sym (drop-drop j (body_span c).start source) ∙ rw (← drop-append-le j (take n rest) (drop n rest) h, take-append-drop n rest)

-- a byte of a body
pub body_byte : (source : List ℕ) (c : Comment) → BodyWithin source c → (i : ℕ) → i < length (body source c)
    → get_or (body source c) i 0 ≡ get_or source ((body_span c).start + i) 0
body_byte source c w i l = get_or-between source (body_span c).start (body_span c).end i 0 (omega (arith, w.long))

-- ---- boundaries

module _ (source : List ℕ) (c : Comment) (f : formed Utf8 0 source ≡ true) (h : Placed source c) where
  -- the body begins behind an ASCII byte
  body_starts : Boundary source (body_span c).start
  unfolding body_span
  body_starts =
      let start = c.span.start in
      let front = opening c.kind in
      let back = closing c.kind in
      let marks = fenced c.kind in
      let some = marks.some in
      let room = holds_marks_lem source c h in
      let end = placed_within source c h in
      let k = length front - 1 in
      let byte : get_or source (start + k) 0 ≡ get_or front k 0 =
      sym (get_or-between source start c.span.end k 0 (omega arith))
      ∙ ap (λ (t : List ℕ). get_or t k 0) h.marks
      ∙ get_or-append front (body source c ++ back) 0 k (omega arith) in
      let behind : start + length front ≡ start + k + 1 = omega arith in
      rw behind (ascii_between source f (start + k) (omega arith) (rw byte marks.last)).1

  -- and ends where the comment ends, or before an ASCII byte
  body_ends : Boundary source (body_span c).end
  unfolding body_span
  body_ends = go (closing c.kind) refl
    where
      go : (back : List ℕ) → closing c.kind ≡ back → Boundary source (c.span.end - length back)
      go [] e = rw sub-zero h.end
      go (b ∷ bs) e =
          let s = slice source c.span in
          let front = opening c.kind ++ body source c in
          let room = rw e at (holds_marks_lem source c h) in
          let end = placed_within source c h in
          let n : length s ≡ c.span.end - c.span.start = simp (length-take, length-drop) (omega arith) in
          let k = length s - length (b ∷ bs) in
          let all : s ≡ front ++ b ∷ bs = h.marks ∙ ap (λ (t : List ℕ). opening c.kind ++ (body source c ++ t)) e ∙
          sym (append_assoc (opening c.kind) (body source c) (b ∷ bs)) in
          let size : length front ≡ k = omega (arith, ap length all ∙ length-append front (b ∷ bs)) in
          let byte : get_or s k 0 ≡ b = ap (λ (r : List ℕ). get_or r k 0) all ∙ get_or_at front b bs 0 k size in
          let there : c.span.start + k ≡ c.span.end - length (b ∷ bs) = omega arith in
          let same = rw there at (get_or-between source c.span.start c.span.end k 0 (omega arith)) in
          let first : b < 0x80 = rw e at (fenced c.kind).first in
          (ascii_between source f (c.span.end - length (b ∷ bs)) (omega arith) (rw (← same, byte) first)).0

  pub body_formed : formed Utf8 0 (body source c) ≡ true
  body_formed = part_formed source f (body_span c).start (body_span c).end (placed_body source c h).order body_starts body_ends

  -- a boundary of the body is one of the source
  pub body_boundary : (p : ℕ) → Boundary (body source c) p → Boundary source ((body_span c).start + p)
  body_boundary p (l, x) = go (ltb p (length (body source c))) refl
    where
      go : (b : Bool) → ltb p (length (body source c)) ≡ b → Boundary source ((body_span c).start + p)
      go true e =
          let w = placed_body source c h in
          let i = ltb-true p (length (body source c)) e in
          (omega arith, rw (body_byte source c w p i) at x)
      go false e =
          let w = placed_body source c h in
          let i : (body_span c).start + p ≡ (body_span c).end = omega (arith, ltb-false p (length (body source c)) e) in
          rw i body_ends
