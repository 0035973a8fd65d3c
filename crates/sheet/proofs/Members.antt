-- What is known of a comment, and of the groups that are looked up.
use Rattle.laws.proofs.Prelude.{◌≡◌, Bool, true, false, cond, List, [], ◌∷◌, Option, none-some, ℕ, suc, ◌≤◌, ◌<◌, zero-le, suc-le-suc}
use Rattle.laws.proofs.Prelude.{length}
use Rattle.std.specs.Prelude.{None, Option, Some}
use Rattle.std.proofs.lemmas.Option.{same_Some}
use Rattle.sheet.specs.{declared.comments.Comment.Comment, declared.groups.Group.Group, Program.Program, declared.names.Side.Side}
use Rattle.sheet.specs.Fit.{Placed, Reaching, group_of, Grouped}
use Rattle.sheet.specs.declared.names.Side.TheVariants.{Leading, Trailing}
use Rattle.sheet.specs.Lookups.{stands_at, group_at, head_by, head_group}

-- a comment does not reach past the source
pub placed_within : (source : List ℕ) (c : Comment) → Placed source c → c.span.end ≤ length source
placed_within source c p = p.end.0

-- what holds of each group holds of the one that is found
found_each : (Q : Group → Type 0) (gs : List Group) (side : Side) (position : ℕ) → ((k : ℕ) → k < length gs → Q (group_of gs k)) → {g : Group}
    → group_at gs side position ≡ Some g → Q g
unfolding group_at
found_each Q [] side position q {g} e = absurd (none-some g e)
found_each Q (h ∷ gs) side position q {g} e = go (stands_at h side position) e (found_each Q gs side position (λ k l. q (suc k) (suc-le-suc l)))
  where
    go : (b : Bool) → cond b (Some h) (group_at gs side position) ≡ Some g → (group_at gs side position ≡ Some g → Q g) → Q g
    go true e more = rw (← same_Some h g e) (q 0 (suc-le-suc zero-le))
    go false e more = more e

module _ {total : ℕ} {gs : List Group} (h : Grouped total gs) where
  pub found_reaching : (side : Side) (position : ℕ) {g : Group} → group_at gs side position ≡ Some g → Reaching total g
  found_reaching side position = found_each (Reaching total) gs side position h.each

  pub head_reaching : (p : Program) {g : Group} → head_group p gs ≡ Some g → Reaching total g
  unfolding head_group
  head_reaching p {g} e = by_item p.first e
    where
      by_shebang : (b : Bool) → cond b (group_at gs Trailing p.span.end) (group_at gs Leading p.span.start) ≡ Some g → Reaching total g
      by_shebang true e = found_reaching Trailing p.span.end e
      by_shebang false e = found_reaching Leading p.span.start e

      by_item : (first : Option ℕ) → head_by p gs first ≡ Some g → Reaching total g
      by_item (Some at) e = found_reaching Leading at e
      by_item None e = by_shebang p.shebang e
