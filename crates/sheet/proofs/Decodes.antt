-- The comments and the groups of a sheet: what decodes is what document 01 asks of them, and that decodes.
use Rattle.laws.proofs.Prelude.{◌≡◌, refl, true, List, flat_map, ℕ, ◌≤◌, ◌<◌, zero-le, arith, length}
use Rattle.laws.{specs.Codec.Codec, proofs.Codecs.codec_as}
use Rattle.text.specs.Position.{Boundary}
use Rattle.wire.specs.Number.{largest}
use Rattle.sheet.specs.declared.{comments.Comment.Comment, groups.Group.Group}
use Rattle.sheet.specs.Comments.{comments, encode_comment, end_of, groups, encode_group, anywhere, may_follow}
use Rattle.sheet.specs.Fit.{Placed, Fit, no_comment, Reaching, Precedes, Grouped, no_group, group_of}
use Rattle.sheet.proofs.Chains.{Chained, chained_codec, of_each, of_pairs, chain}
use Rattle.sheet.proofs.Order.{by_order, in_order, earlier_trans}
use Rattle.sheet.proofs.CommentCodecs.{PlacedBehind, comment_codec, Ranged, group_codec}

module _ (source : List ℕ) where
  -- comments, each behind the one before, are in order and apart
  chained_fit : (cs : List Comment) → Chained (PlacedBehind source) end_of 0 cs → Fit source cs
  chained_fit cs c =
      let Apart : Comment → Comment → Type 0 = λ c d. (c.span.end ≤ d.span.start) × (d.span.start ≤ d.span.end) in
      record {
        each = of_each (PlacedBehind source) end_of no_comment (Placed source) (λ last c j. j.placed) 0 cs c;
        apart = λ j k i h.
            (of_pairs (PlacedBehind source) end_of no_comment Apart (λ c d q. (q.behind, q.placed.order)) (λ a b c x y. (omega arith, y.1)) 0 cs c j k i h).0;
      }

  fit_chained : length source ≤ largest → (cs : List Comment) → Fit source cs → Chained (PlacedBehind source) end_of 0 cs
  fit_chained small cs f =
      chain (PlacedBehind source) end_of no_comment (Placed source) (λ last c. last ≤ c.span.start)
      (λ last c p l. record { placed = p; behind = l; small = (omega (arith, p.start.0), omega (arith, p.end.0)) })
      0 cs f.each (λ k h. zero-le) f.apart

  pub comments_codec : length source ≤ largest → (n : ℕ) → Codec (comments source 0 n) (flat_map encode_comment) (λ cs. (length cs ≡ n) × Fit source cs)
  comments_codec small n = codec_as (chained_codec (comment_codec source) 0 n) (λ cs v. (v.0, fit_chained small cs v.1))
      (λ cs v. (v.0, chained_fit cs v.1))

  -- each group is at a boundary
  abbrev pub AtBoundaries : List Group → Type 0
  AtBoundaries gs = (k : ℕ) → k < length gs → Boundary source (group_of gs k).position

  module _ (total : ℕ) where
    -- groups, each behind the one before, are in order
    chained_grouped : (gs : List Group) → Chained (Ranged source total) may_follow anywhere gs → Grouped total gs × AtBoundaries gs
    chained_grouped gs c = (
      record {
        each = of_each (Ranged source total) may_follow no_group (Reaching total) (λ after g q. q.reaching) anywhere gs c;
        ascending = record {
          rise = of_pairs (Ranged source total) may_follow no_group Precedes
              (λ g h q. by_order g.side g.position h.side h.position q.follows)
              (λ a b c. earlier_trans a.side a.position b.side b.position c.side c.position) anywhere gs c;
        };
      },
      of_each (Ranged source total) may_follow no_group (λ g. Boundary source g.position) (λ after g q. q.place) anywhere gs c,
    )

    grouped_chained : length source ≤ largest → total ≤ largest → (gs : List Group) → Grouped total gs × AtBoundaries gs
        → Chained (Ranged source total) may_follow anywhere gs
    grouped_chained small few gs (f, at) =
        chain (Ranged source total) may_follow no_group (λ g. Reaching total g × Boundary source g.position) (λ after g. after g.side g.position ≡ true)
        (λ after g (r, p) q. record { reaching = r; place = p; follows = q; small = (omega (arith, p.0), omega (arith, r.reach), omega (arith, r.reach)) })
        anywhere gs (λ k h. (f.each k h, at k h)) (λ k h. refl)
        (λ j k i h. in_order (group_of gs j).side (group_of gs j).position (group_of gs k).side (group_of gs k).position (f.ascending.rise j k i h))

    pub groups_codec : length source ≤ largest → total ≤ largest → (m : ℕ)
        → Codec (groups source total anywhere m) (flat_map encode_group) (λ gs. (length gs ≡ m) × (Grouped total gs × AtBoundaries gs))
    groups_codec small few m =
        codec_as (chained_codec (group_codec source total) anywhere m)
        (λ gs v. (v.0, grouped_chained small few gs v.1))
        (λ gs v. (v.0, chained_grouped gs v.1))
