-- The comments of a group fit the source as all of them do.
use Rattle.laws.proofs.Prelude.{◌≡◌, ◌∙◌, [], List, ℕ, ◌+◌, ◌<◌, not-suc-le-zero, arith, length, get_or-drop, length-drop, drop, length-take-le}
use Rattle.std.specs.Prelude.{None, Option, Some}
use lib.Seq.{get_or-take}
use Rattle.laws.specs.Codec.{IfThere}
use Rattle.text.specs.declared.position.Position.{Position}
use Rattle.sheet.specs.declared.{comments.Comment.Comment, groups.Group.Group}
use Rattle.sheet.specs.Fit.{no_comment, comment_of, Fit, Reaching, Grouped}
use Rattle.sheet.specs.Lookups.{comments_of, in_group}
use Rattle.sheet.specs.code.{Commented.Commented, Lent.Lends, Lent.GroupOf}

-- the kth comment of a group
group_comment : (cs : List Comment) (g : Group) (k : ℕ) → k < g.count → comment_of (comments_of cs g) k ≡ comment_of cs (g.first + k)
group_comment cs g k l = get_or-take g.count (drop g.first cs) k no_comment l ∙ get_or-drop g.first cs k no_comment

group_length : (cs : List Comment) (g : Group) → Reaching (length cs) g → length (comments_of cs g) ≡ g.count
group_length cs g r = length-take-le g.count (drop g.first cs) (omega (arith, r.reach, length-drop g.first cs))

none_fit : {source : List ℕ} → Fit source []
none_fit = record { each = λ k l. absurd (not-suc-le-zero l); apart = λ j k i l. absurd (not-suc-le-zero l) }

-- no groups are in order
ungrouped : (n : ℕ) → Grouped n []
ungrouped n = record { each = λ k l. absurd (not-suc-le-zero l); ascending = record { rise = λ j k i l. absurd (not-suc-le-zero l) } }

group_fit : {source : List ℕ} {cs : List Comment} → Fit source cs → (g : Group) → Reaching (length cs) g → Fit source (comments_of cs g)
group_fit {cs = cs} f g r =
    let long = group_length cs g r in
    record {
      each = λ k l. rw (group_comment cs g k (omega (arith, long))) (f.each (g.first + k) (omega (arith, long, r.reach)));
      apart = λ j k i l.
          rw (group_comment cs g j (omega (arith, long)), group_comment cs g k (omega (arith, long)))
          (f.apart (g.first + j) (g.first + k) (omega arith) (omega (arith, long, r.reach)));
    }

found_fit : {source : List ℕ} {cs : List Comment} → Fit source cs → (found : Option Group) → IfThere (Reaching (length cs)) found
    → Fit source (in_group cs found)
found_fit f None r = none_fit
found_fit f (Some g) r = group_fit f g r

-- and are lent with the same index
pub group_lends : {c : Commented} {index : List Position} → Lends c index → (found : Option Group) → GroupOf c found
    → Lends (record { source = c.source; comments = in_group c.comments found; groups = [] }) index
group_lends h found r = record { fit = found_fit h.fit found r; grouped = ungrouped _; indexed = h.indexed }
