use Rattle.laws.proofs.Prelude.{told, ap, ◌∙◌}
use Rattle.dep.proofs.Reach.{children_walked}
use Rattle.dep.specs.code.Walk.{answered}
use Rattle.dep.proofs.walk.DependencyCollector.walk_root.Goals as goal

-- `walk_root`: of an Other the children up to the last that has an entry.

pub returns-in-Other : goal.returns-in-Other
returns-in-Other c =
    let walked = c.walk_nodes.ensures in
    let read = rw c.source.ensures.value at (told c.read_head.ensures c.in_ok-head.was) in
    record {
      answer = λ n t e far. ap answered walked.answer ∙ children_walked _ _ _ _ e far _ read c.in-Other.is;
      left = walked.left;
    }
