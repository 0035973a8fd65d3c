-- How many of the root's children there are up to the last that has an entry.
use Rattle.std.specs.Prelude.{◌≡◌, ℕ, zero, suc}
use Rattle.sheet.specs.declared.fields.Span.{Span}
use Rattle.sheet.specs.Tree.{Node, other, Nodes, more}
use Rattle.sheet.specs.Walk.{walk_all}
use Rattle.sheet.specs.Walked.{counting}

-- behind the first k of some nodes none has an entry
pub data Reaches : ℕ → Nodes → Type 0 where
  quiet : {ns : Nodes} → walk_all counting ns ≡ 0 → Reaches 0 ns
  past : {k : ℕ} {n : Node} {ns : Nodes} → Reaches k ns → Reaches (suc k) (more n ns)

-- of the children of an Other
abbrev pub ReachesIn : ℕ → Node → Type 0
ReachesIn k n = (sp : Span) (ns : Nodes) → n ≡ other sp ns → Reaches k ns

-- how far entries reach, by the number of those of one child more, the last of so many
abbrev pub furthest : ℕ → ℕ → ℕ → ℕ
furthest reach zero here = reach
furthest reach (suc k) here = here
