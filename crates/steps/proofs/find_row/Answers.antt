use Rattle.laws.proofs.Prelude.{rules}
use Rattle.analysis.specs.Row.{no_capture, match_at}
use Rattle.analysis.proofs.Leftmost.{first_found, found_leftmost}
use Rattle.steps.proofs.Running.{Whole}
use Rattle.steps.proofs.find_row.Goals as goal

pub returns : goal.returns
unfolding match_at
returns c = record {
  is = λ q e.
      let s = c.args.body.now in
      let at = c.new.ensures in
      let first = first_found at.start at.end at.exhausted (search rules) c.find_map.result c.find_map.ensures.runs in
      found_leftmost q s first (λ at k h f. let w : Whole c.args.table.now s (record { at = at; captured = no_capture }) k = search rules in w.is q e);
}
