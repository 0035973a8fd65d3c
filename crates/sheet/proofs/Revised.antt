-- What a revision leaves as it was: positions outside of the body, the spans of the tree, and the bodies of all other comments.
use Rattle.laws.proofs.Prelude.{◌≡◌, true, inl, inr, List, [], ◌∷◌, map, ℕ, zero, suc, ◌+◌, ◌≤◌, ◌<◌, arith, length, take, drop}
use native.Mathlib.Decide.{dec_lt}
use Rattle.laws.{specs.Codec.All, proofs.Lists.all_parts}
use Rattle.text.specs.{declared.utf8.Encoding.TheVariants.Utf8, Utf8.formed, Position.characters, Position.utf16}
use Rattle.text.proofs.Outside.{part_front, part_behind, position_outside}
use Rattle.sheet.specs.{declared.fields.Span.Span, declared.comments.Comment.Comment, declared.groups.Group.Group, Sheet.Sheet}
use Rattle.sheet.specs.Fit.{comment_of, Fit, Holds}
use Rattle.sheet.specs.Lookups.{comments_of, body_span, body}
use Rattle.sheet.specs.Recorded.{starts_and_ends, of_program, spans, recorded}
use Rattle.sheet.specs.Revision.{Outside, SameAt, body_of, Revision}
use Rattle.sheet.proofs.Bodies.{BodyWithin, placed_body, body_formed}
use Rattle.sheet.proofs.VisitSpans.{of_ends}

-- a comment has the same body in two sources, with the same positions in it
pub record Alike (s r : List ℕ) (c : Comment) : Type 0 where
  pub size : length s ≡ length r
  pub within : BodyWithin s c
  pub formed_body : formed Utf8 0 (body s c) ≡ true
  pub same_body : body s c ≡ body r c
  pub position : (at : ℕ) → (body_span c).start ≤ at → at ≤ (body_span c).end → SameAt characters s r at

-- in the second source too the body lies within the comment
pub alike_within : {s r : List ℕ} {c : Comment} → Alike s r c → BodyWithin r c
alike_within a =
    let w = a.within in
    record { start = w.start; order = w.order; end = w.end; source_end_lem = rw (← a.size) w.source_end_lem; long = rw (← a.same_body) w.long }

-- what holds of the comments from an index on holds of those of a part
of_part : (P : Comment → Type 0) (cs : List Comment) (from n : ℕ) → ((i : ℕ) → from ≤ i → i < from + n → i < length cs → P (comment_of cs i)) →
    All P (take n (drop from cs))
of_part P [] zero zero h = tt
of_part P [] zero (suc n) h = tt
of_part P [] (suc from) zero h = tt
of_part P [] (suc from) (suc n) h = tt
of_part P (c ∷ cs) zero zero h = tt
of_part P (c ∷ cs) zero (suc n) h =
    (h 0 (omega arith) (omega arith) (omega arith), of_part P cs zero n (λ i f l k. h (suc i) (omega arith) (omega arith) (omega arith)))
of_part P (c ∷ cs) (suc from) n h = of_part P cs from n (λ i f l k. h (suc i) (omega arith) (omega arith) (omega arith))

module _ {t u : Sheet} {k : ℕ} (r : Revision t u k) where
  pub characters_kept : (at : ℕ) → Outside (body_of t k) at → SameAt characters t.source u.source at
  characters_kept = position_outside t.source u.source (body_of t k).start (body_of t k).end r.front r.behind characters r.in_characters

  pub units_kept : (at : ℕ) → Outside (body_of t k) at → SameAt utf16 t.source u.source at
  units_kept = position_outside t.source u.source (body_of t k).start (body_of t k).end r.front r.behind utf16 r.in_units

  -- the spans of the tree
  abbrev pub Apart : Span → Type 0
  Apart sp = Outside (body_of t k) sp.start × Outside (body_of t k) sp.end

  pub spans_apart : All Apart (spans t.root)
  unfolding recorded
  spans_apart =
      let inside = Outside (body_of t k) in
      let tree = starts_and_ends (spans t.root) in
      let (c, gs) = all_parts inside (starts_and_ends (map (λ c. c.span) t.comments)) _ r.apart in
      let (g, ps) = all_parts inside (map (λ g. g.position) t.groups) _ gs in
      let (p, ns) = all_parts inside (of_program t.program) tree ps in
      of_ends inside (spans t.root) ns

  -- the other comments
  module _ (f : formed Utf8 0 t.source ≡ true) (fit : Fit t.source t.comments) where
    pub others_alike : (i : ℕ) → i < length t.comments → (i ≡ k → ⊥) → Alike t.source u.source (comment_of t.comments i)
    others_alike i l n = go (dec_lt i k)
      where
        c : Comment
        c = comment_of t.comments i

        v : BodyWithin t.source (comment_of t.comments k)
        v = placed_body t.source (comment_of t.comments k) (fit.each k r.there)

        w : BodyWithin t.source c
        w = placed_body t.source c (fit.each i l)

        go : Dec (i < k) → Alike t.source u.source c
        go (yes h) =
            let before : (body_span c).end ≤ (body_of t k).start = omega (arith, fit.apart i k h r.there, w.end, v.start) in
            record {
              size = r.size;
              within = w;
              formed_body = body_formed t.source c f (fit.each i l);
              same_body = part_front t.source u.source (body_of t k).start (body_of t k).end r.front r.behind (body_span c).start
                  (body_span c).end w.order before;
              position = λ at x y. characters_kept at (inl (omega arith));
            }
        go (no h) =
            let after : (body_of t k).end ≤ (body_span c).start = omega (arith, fit.apart k i (omega arith) l, w.start, v.end) in
            record {
              size = r.size;
              within = w;
              formed_body = body_formed t.source c f (fit.each i l);
              same_body = part_behind t.source u.source (body_of t k).start (body_of t k).end r.front r.behind (body_span c).start
                  (body_span c).end after;
              position = λ at x y. characters_kept at (inr (omega arith));
            }

    -- those of a group that lacks the comment
    pub group_alike : (g : Group) → (Holds g k → ⊥) → All (Alike t.source u.source) (comments_of t.comments g)
    group_alike g lacks =
        of_part (Alike t.source u.source) t.comments g.first g.count
        (λ i f h l. others_alike i l (λ e. lacks (omega arith, omega arith)))
