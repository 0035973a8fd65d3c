use Rattle.dep_entries.specs.code.Written.{types_of}
use Rattle.dep_entries.proofs.Wrote.{entries_nil, items_same}
use Rattle.dep.proofs.Arms.{leaf_holds}
use Rattle.dep.proofs.walk.DependencyCollector.+walk.Goals as goal

-- a node that holds nothing and has no entry
pub walk_rest-returns-in-String : goal.walk_rest-returns-in-String
walk_rest-returns-in-String t c =
    let a = c.args in
    let in_source = a.self.now.comments.now in
    record {
      answer = leaf_holds in_source.source (types_of in_source) a.levels a.span a.head c.in-String.is (entries_nil a.items.now) a.s.now;
      left = items_same a.items.now;
    }
