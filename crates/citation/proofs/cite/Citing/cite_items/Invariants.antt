use Rattle.laws.proofs.Prelude.{◌≡◌, List, ◌++◌, flat_map, ℕ, ◌-◌, ◌*◌, ◌≤◌, length}
use Rattle.laws.specs.Codec.{All}
use Rattle.report.specs.Buffer.{Keeps}
use Rattle.citation.specs.{Citation.Line, Citation.cite_each, code.Cites.Printed}
use Rattle.report_reader.proofs.Lists.{Stand}
use Rattle.citation.proofs.cite.Citing.cite_items.Given as goal

abbrev pub invariant-loop : goal.invariant-loop
invariant-loop g l =
    let i = g.I.Item in
    (l.lines ≤ 2 * l.counter)
    × Keeps l.fn.w l.w
    × ((xs : List i.Value) → (length xs ≡ l.count) × All i.Valid xs → (t : List ℕ) → l.initial.next ≡ flat_map i.encode xs ++ t
    → (ys : List i.Value) × (done : List Line)
    × Stand i.encode i.Valid t l.next (l.count - l.counter) ys
    × Printed l.self.source.now l.fn.w done l.w l.lines
    × (cite_each i.cited l.self.numbers.now xs ≡ done ++ cite_each i.cited l.numbers ys))
