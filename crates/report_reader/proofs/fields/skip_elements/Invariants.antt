use Rattle.laws.proofs.Prelude.{List, ℕ, ◌-◌}
use Rattle.report_reader.proofs.Lists.{SkipsMany}
use Rattle.report_reader.proofs.fields.skip_elements.Given as goal

abbrev pub invariant-loop : goal.invariant-loop
invariant-loop g l =
    let e = g.E.Element in
    (t : List ℕ) → SkipsMany e.encode e.Valid (l.count - l.counter) l.next t
    → SkipsMany e.encode e.Valid l.count l.initial.next t
