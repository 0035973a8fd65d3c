-- Codecs of positions, comments and groups: what holds of those that were decoded.
use Rattle.laws.proofs.Prelude.{◌≡◌, refl, Bool, true, ◌&&◌, and-eq-true_iff, List, append-nil, ℕ, ◌+◌, ◌≤◌, leb, ltb, length, ltb-true, leb-true, lt-ltb}
use Rattle.laws.proofs.Prelude.{le-leb}
use Rattle.laws.{specs.Decoded.ok, specs.Codec.Codec}
use Rattle.laws.proofs.Codecs.{built_return, built_then, built_require, codec_of, codec_as, tested, built_free}
use Rattle.text.{specs.Position.Boundary, specs.Position.is_boundary, proofs.Boundary.is_boundary_iff}
use Rattle.wire.{specs.Number.largest, specs.Number.encode_number, proofs.NumberCodec.number_codec, proofs.Numbered.numbered_codec}
use Rattle.sheet.specs.declared.{comments.Comment.Comment, groups.Group.Group, names.Side.Side}
use Rattle.sheet.specs.Fields.{position, end_from}
use Rattle.sheet.specs.Comments.{slice, marked, comment, encode_comment, group, encode_group}
use Rattle.sheet.specs.Fit.{Placed, Reaching}
use Rattle.sheet.proofs.{EnumNumbers.kind_numbers, EnumNumbers.side_numbers, Marks.marked_iff}

-- a position
pub record At (source : List ℕ) (p : ℕ) : Type 0 where
  pub boundary : Boundary source p
  pub small : p ≤ largest

-- a comment behind `last`, whose numbers are small
pub record PlacedBehind (source : List ℕ) (last : ℕ) (c : Comment) : Type 0 where
  pub placed : Placed source c
  pub behind : last ≤ c.span.start
  pub small : (c.span.start ≤ largest) × (c.span.end ≤ largest)

-- a group that may come after what is before, whose numbers are small
pub record Ranged (source : List ℕ) (total : ℕ) (after : Side → ℕ → Bool) (g : Group) : Type 0 where
  pub reaching : Reaching total g
  pub place : Boundary source g.position
  pub follows : after g.side g.position ≡ true
  pub small : (g.position ≤ largest) × (g.first ≤ largest) × (g.count ≤ largest)

module _ (source : List ℕ) where
  pub position_codec : Codec (position source) encode_number (At source)
  unfolding position
  position_codec =
      codec_as (tested number_codec (is_boundary source) 6)
      (λ p v. (v.small, (is_boundary_iff source p).1 v.boundary))
      (λ p v. record { boundary = (is_boundary_iff source p).0 v.1; small = v.0 })

  pub end_codec : (start : ℕ) → Codec (end_from source start) encode_number (λ p. At source p × (start ≤ p))
  unfolding end_from
  end_codec start = codec_as (tested position_codec (leb start) 6) (λ p v. (v.0, le-leb start p v.1)) (λ p v. (v.0, leb-true start p v.1))

  -- from a start to an end is a part of the source
  pub span_part : {start : ℕ} (s : List ℕ) {end : ℕ} {t : List ℕ} → end_from source start s ≡ ok end t
      → (start ≤ end) × (end ≤ length source)
  span_part {start} s {end} {t} e = let (at, order) = ((end_codec start).sound s end t e).1 in (order, at.boundary.0)

  pub comment_codec : (last : ℕ) → Codec (comment source last) encode_comment (PlacedBehind source last)
  unfolding comment
  comment_codec last =
      codec_of
      (built_free (numbered_codec kind_numbers)
      (λ kind. built_then position_codec (λ start. built_require (leb last start) 7 (built_then (end_codec start) (λ end.
      built_require (marked kind (slice source (record { start = start; end = end }))) 7
      (built_return (record { kind = kind; span = record { start = start; end = end } })))))))
      (λ c v.
      let w = v.placed in
      let start : At source c.span.start = record { boundary = w.start; small = v.small.0 } in
      let end : At source c.span.end = record { boundary = w.end; small = v.small.1 } in (
        (c.kind, (c.span.start, (c.span.end, tt))),
        refl,
        (start, (le-leb last c.span.start v.behind, ((end, w.order), ((marked_iff source c w.order w.end.0).1 w.marks, tt)))),
      ))
      (λ p v.
      let (start, (behind, ((end, order), (marks, z)))) = v in (
        rw (append-nil (encode_number p.1.1.0)),
        record {
          placed = record { start = start.boundary; end = end.boundary; order = order; marks = (marked_iff source _ order end.boundary.0).0 marks };
          behind = leb-true last p.1.0 behind;
          small = (start.small, end.small);
        },
      ))

  pub group_codec : (total : ℕ) (after : Side → ℕ → Bool) → Codec (group source total after) encode_group (Ranged source total after)
  unfolding group
  group_codec total after =
      codec_of
      (built_free (numbered_codec side_numbers)
      (λ side. built_then position_codec (λ p. built_require (after side p) 7 (built_then number_codec (λ first. built_then number_codec (λ n.
      built_require (ltb 0 n && leb (first + n) total) 7
      (built_return (record { side = side; position = p; first = first; count = n }))))))))
      (λ g v.
      let w = v.reaching in
      let (position, first, n) = v.small in
      let reach = (and-eq-true_iff (ltb 0 g.count) (leb (g.first + g.count) total)).1
      (lt-ltb 0 g.count w.some, le-leb (g.first + g.count) total w.reach) in
      ((g.side, (g.position, (g.first, (g.count, tt)))), refl, (record { boundary = v.place; small = position }, (v.follows, (first, (n, (reach, tt)))))))
      (λ p v.
      let (at, (follows, (small, (small', (reach, z))))) = v in
      let first = p.1.1.0 in
      let n = p.1.1.1.0 in
      let (some, all) = (and-eq-true_iff (ltb 0 n) (leb (first + n) total)).0 reach in (
        rw (append-nil (encode_number n)),
        record {
          reaching = record { some = ltb-true 0 n some; reach = leb-true (first + n) total all };
          place = at.boundary;
          follows = follows;
          small = (at.small, small, small');
        },
      ))
