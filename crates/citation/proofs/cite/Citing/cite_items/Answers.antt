use Rattle.laws.proofs.Prelude.{◌≡◌, refl, ◌∙◌, [], ◌++◌, append-nil, flat_map, ◌+◌, ◌-◌, arith, get_or}
use Rattle.report.proofs.Buffers.{wrote_none, keeps_same, keeps_then}
use Rattle.report_reader.proofs.Lists.{next_item, no_item}
use Rattle.citation.proofs.{Printing.both, Printing.cite_next}
use Rattle.citation.proofs.cite.Citing.cite_items.Goals as goal

pub loop-init : goal.loop-init
unfolding flat_map
loop-init g c =
    let a = c.args in
    (omega arith, keeps_same a.w.now, λ l v t e. (l, [], (omega (arith, v.0), v.1, e), record { written = wrote_none a.w.now; counted = refl }, refl))

pub loop-preserved : goal.loop-preserved
loop-preserved g c =
    let f = g.I.Item in
    let a = c.args in
    let i = c.loop in
    let item = c.cite-item in
    let number = c.next_number-number.ensures in
    let one : a.count - (i.counter + 1) ≡ a.count - i.counter - 1 = omega arith in (
      omega (arith, i.invariant.0, item.ensures.bounds),
      keeps_then i.invariant.1 item.ensures.left,
      λ l v t e.
          let (l, done, p, q, r) = i.invariant.2 l v t e in
          let (x, l, same, v, e, on) = next_item f.encode f.Valid t i.next.now (a.count - i.counter) l (omega arith) p in
          let (o, e) = item.ensures.answer x v _ e in
          rw (one, number.1) (
            l,
            done ++ f.cited (get_or i.numbers.now 1 0) x,
            on item.result.1.now e,
            both q (rw number.0 at o),
            r ∙ cite_next f.cited i.numbers.now done same,
          ),
    )

pub returns-clause-answer : goal.returns-clause-answer
unfolding flat_map
returns-clause-answer g c =
    let f = g.I.Item in
    let a = c.args in
    let i = c.loop in
    λ l v t e.
    let (l, done, p, q, r) = i.invariant.2 l v t e in
    let (none, e) = no_item f.encode f.Valid t i.next.now (a.count - i.counter) l (omega arith) p in
    rw (r, none, append-nil) (q, e)
