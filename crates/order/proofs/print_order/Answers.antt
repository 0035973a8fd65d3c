use Rattle.laws.proofs.Prelude.{◌≡◌, rules, arith, sym, length-take-le}
use Rattle.citation.proofs.Whole.{all_written, all_within}
use Rattle.report.proofs.Buffers.{wrote_keeps}
use Rattle.order.proofs.print_order.Goals as goal

pub slice_bounds-result-end : goal.slice_bounds-result-end
slice_bounds-result-end c =
    let keeps = wrote_keeps _ _ _ c.put_order.ensures.answer in
    sym (length-take-le _ _ (all_within c.put_order.new.w (search rules) c.written-length.ensures))

pub returns : goal.returns
returns c =
    let put = c.put_order.ensures in
    let line = rw c.told-work at put.answer in
    let short = rw c.told-work at put.bounds in
    let keeps = wrote_keeps _ _ _ line in
    let lent : c.new-w.result.out.now ≡ c.args.line.now = search rules in
    (all_written _ _ line (search rules) (rw lent (omega (arith, short, c.requires))) (search rules) c.written-length.ensures).1
