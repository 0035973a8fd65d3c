use Rattle.laws.proofs.Prelude.{arith, ◌≡◌, ◌+◌, ◌-◌}
use Rattle.std.proofs.lemmas.List.{take-map, drop-map}
use Rattle.sheet.proofs.commented.rows_of.Goals as goal

pub returns-in-Some : goal.returns-in-Some
returns-in-Some c =
    let g = c.in-Some.g in
    let n : g.first + g.count - g.first ≡ g.count = omega arith in
    simp (c.in-Some.is, n, take-map, drop-map)
