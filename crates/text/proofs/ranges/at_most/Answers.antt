use Rattle.laws.proofs.Prelude.{ℕ, Bool, rules, arith, leb, leb-true, leb-false}
use Rattle.std.proofs.lemmas.List.Sorted.{IsPartitionedBy-leb, IsPartitionPoint-from_clause}
use Rattle.text.proofs.{Bounds.not_falling}
use Rattle.text.proofs.ranges.at_most.Goals as goal

pub returns : goal.returns
returns c =
    let a = c.args in
    let p : ℕ → Bool = λ y. leb y a.x in
    let call = c.partition_point in
    let split = IsPartitionPoint-from_clause p a.a.now call.result call.ensures.partitioned (IsPartitionedBy-leb (λ y. y) a.a.now a.x (not_falling c.requires))
    (λ x b f k. search rules) in
    record {
      within = call.ensures.bound;
      below = λ k l. leb-true _ _ (split.0 k 0 (omega arith) l);
      above = λ k h l. leb-false _ _ (split.1 k 0 h l);
    }
