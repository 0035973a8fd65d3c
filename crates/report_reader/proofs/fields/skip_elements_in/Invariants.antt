use Rattle.laws.proofs.Prelude.{List, ℕ, ◌-◌}
use Rattle.laws.specs.code.Among.{EndOf}
use Rattle.report_reader.proofs.Lists.{SkipsMany}
use Rattle.report_reader.proofs.fields.skip_elements_in.Given as goal

abbrev pub invariant-loop : goal.invariant-loop
invariant-loop g l =
    let e = g.E.ElementIn in
    EndOf l.next l.initial.next
    × ((t : List ℕ) → SkipsMany e.encode e.Valid (l.count - l.counter) l.next t
    → SkipsMany e.encode e.Valid l.count l.initial.next t)
