use Rattle.laws.proofs.Prelude.{rules}
use Rattle.std.proofs.lemmas.List.Sorted.{answers_always}
use Rattle.sheet.proofs.Search.{searched}
use Rattle.sheet.proofs.lookups.Groups.find_group.Goals as goal

pub returns-in_err-at : goal.returns-in_err-at
returns-in_err-at c =
    let a = c.args in
    let found = c.binary_search_by_key.ensures in
    let by_place = found.position (λ row. (row.side, row.position)) (answers_always _ _ _ (λ f a r g called. search rules)) in
    rw (
      ← c.self.view_is,
      c.from_residual.ensures,
      searched c.self.inside.rows.now a.side a.position c.self.invariant _ found.bound by_place,
      ← c.ok.ensures.value,
      c.in_err-at.was,
    )

pub returns : goal.returns
returns c =
    let a = c.args in
    let found = c.binary_search_by_key.ensures in
    let by_place = found.position (λ row. (row.side, row.position)) (answers_always _ _ _ (λ f a r g called. search rules)) in
    rw (
      ← c.self.view_is,
      c.from.ensures,
      searched c.self.inside.rows.now a.side a.position c.self.invariant _ found.bound by_place,
      ← c.ok.ensures.value,
      c.in_ok-at.was,
    )
