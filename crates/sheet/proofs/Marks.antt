-- The marks of a comment: what the test for them says, and that a comment is no shorter than they are.
use Rattle.laws.proofs.Prelude.{◌≡◌, sym, ap, ◌∙◌, true, ◌&&◌, and-eq-true_iff, List, [], ◌++◌, append-nil, append_assoc, ◌↔◌, ℕ, ◌+◌, ◌-◌, ◌≤◌, ◌<◌, arith}
use Rattle.laws.proofs.Prelude.{leb, length, get_or, take, drop, length-append, length-take, length-drop, drop_of_length-le, length-take-le, drop-drop}
use Rattle.laws.proofs.Prelude.{take_all, drop-append_seam, leb-true, le-leb}
use lib.{ListN.take-append-drop, Seq.take_at, Seq.drop_at}
use Rattle.laws.proofs.Lists.{part_part}
use Rattle.std.specs.{Prelude.nat_eq, List.ends_with}
use Rattle.text.{specs.Bytes.begins, proofs.Words.begins_is, proofs.Words.begins_sound, proofs.Words.begins_complete}
use Rattle.sheet.specs.{declared.comments.Comment.Comment, declared.names.CommentKind.CommentKind, Fit.Placed}
use Rattle.sheet.specs.declared.names.CommentKind.TheVariants.{Line, Block, HtmlOpen, HtmlClose}
use Rattle.sheet.specs.Comments.{Marks, marks_of, opening, closing, slice, enclosed, marked}
use Rattle.sheet.specs.Lookups.{HoldsMarks, body_span, body}

-- an opening is not empty, and its last byte is ASCII; a closing is empty, or its first byte is ASCII
pub record Fenced (m : Marks) : Type 0 where
  pub some : 0 < length m.opening
  pub last : get_or m.opening (length m.opening - 1) 0 < 0x80
  pub first : get_or m.closing 0 0 < 0x80

pub fenced : (kind : CommentKind) → Fenced (marks_of kind)
fenced Line = record { some = omega arith; last = omega arith; first = omega arith }
fenced Block = record { some = omega arith; last = omega arith; first = omega arith }
fenced HtmlOpen = record { some = omega arith; last = omega arith; first = omega arith }
fenced HtmlClose = record { some = omega arith; last = omega arith; first = omega arith }

-- what the library's test of an end says
pub ends_is : (back c : List ℕ) → length back ≤ length c → begins back (drop (length c - length back) c) ≡ ends_with nat_eq c back
ends_is back c h =
    let last = drop (length c - length back) c in
    rw (begins_is back last, take_all (length back) last (omega (arith, length-drop (length c - length back) c)))

-- a text is enclosed by two marks just where it is something between them
module _ (front back c : List ℕ) where
  pub enclosed_sound : enclosed front back c ≡ true → (t : List ℕ) × (c ≡ front ++ (t ++ back))
  unfolding enclosed
  enclosed_sound e =
      let (x, y) = (and-eq-true_iff (leb (length front + length back) (length c) && begins front c) (begins back (drop (length c - length back) c))).0 e in
      let (l, b) = (and-eq-true_iff (leb (length front + length back) (length c)) (begins front c)).0 x in
      let long = leb-true (length front + length back) (length c) l in
      let rest = drop (length front) c in
      let n = length c - length back - length front in
      let last = drop (length c - length back) c in
      let there : length front + n ≡ length c - length back = omega arith in
      let end : drop n rest ≡ last = drop-drop n (length front) c ∙ ap (λ (k : ℕ). drop k c) there in
      let short : length last ≤ length back = omega (arith, length-drop (length c - length back) c) in
      let none : drop (length back) last ≡ [] = drop_of_length-le last short in
      let closes : last ≡ back = begins_sound back last y ∙ ap (back ++◌) none ∙ append-nil back in
      (take n rest, begins_sound front c b ∙ ap (front ++◌) (sym (take-append-drop n rest) ∙ ap (take n rest ++◌) (end ∙ closes)))

  pub enclosed_complete : (t : List ℕ) → c ≡ front ++ (t ++ back) → enclosed front back c ≡ true
  unfolding enclosed
  enclosed_complete t e =
      let n = ap length e ∙ length-append front (t ++ back) in
      let m = length-append t back in
      let k = length-append front t in
      let last : drop (length c - length back) c ≡ back =
      ap (drop (length c - length back)) (e ∙ sym (append_assoc front t back)) ∙ drop_at (front ++ t) back (length c - length back) (omega arith) in
      let front_there : begins front c ≡ true = rw e (begins_complete front (t ++ back)) in
      let closes : begins back (drop (length c - length back) c) ≡ true = rw last (rw append-nil at (begins_complete back [])) in
      rw (le-leb (length front + length back) (length c) (omega arith), front_there, closes)

-- so a comment within its source has the marks of its kind just where it is its body between them
module _ (source : List ℕ) (c : Comment) (order : c.span.start ≤ c.span.end) (end : c.span.end ≤ length source) where
  body_is : (t : List ℕ) → slice source c.span ≡ opening c.kind ++ (t ++ closing c.kind) → body source c ≡ t
  unfolding body_span
  body_is t e =
      let opens = length (opening c.kind) in
      let start = c.span.start in
      let rest = drop start source in
      let all = c.span.end - start in
      let n = c.span.end - length (closing c.kind) - (start + opens) in
      let long : length (slice source c.span) ≡ opens + (length t + length (closing c.kind)) =
      ap length e ∙ length-append (opening c.kind) (t ++ closing c.kind) ∙ ap (λ (k : ℕ). opens + k) (length-append t (closing c.kind)) in
      let some : length (slice source c.span) ≡ all = length-take-le all rest (omega (arith, length-drop start source)) in
      sym (ap (take n) (drop-drop opens start source))
      ∙ sym (part_part rest all opens n (omega arith))
      ∙ ap (λ (r : List ℕ). take n (drop opens r)) e
      ∙ ap (take n) (drop-append_seam (opening c.kind) (t ++ closing c.kind))
      ∙ take_at t (closing c.kind) n (omega arith)

  pub marked_iff : (marked c.kind (slice source c.span) ≡ true) ↔ (slice source c.span ≡ opening c.kind ++ (body source c ++ closing c.kind))
  unfolding marked
  marked_iff =
      let front = opening c.kind in
      let back = closing c.kind in (
        λ m. let (t, e) = enclosed_sound front back (slice source c.span) m in rw (body_is t e) e,
        enclosed_complete front back (slice source c.span) (body source c),
      )

pub holds_marks_lem : (source : List ℕ) (c : Comment) → Placed source c → HoldsMarks c
holds_marks_lem source c p =
    let long = ap length p.marks ∙ length-append (opening c.kind) (body source c ++ closing c.kind) in
    let order = p.order in
    omega (arith, length-append (body source c) (closing c.kind), length-take (c.span.end - c.span.start) (drop c.span.start source), long)
