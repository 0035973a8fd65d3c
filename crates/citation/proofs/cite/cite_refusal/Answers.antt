use Rattle.laws.proofs.Prelude.{◌≡◌, rules, arith}
use Rattle.report.proofs.Buffers.{wrote_keeps}
use Rattle.citation.specs.Citation.{refusal}
use Rattle.citation.proofs.{Whole.all_written, Whole.all_within, Lengths.refusal_short}
use Rattle.citation.proofs.cite.cite_refusal.Goals as goal

pub returns : goal.returns
unfolding refusal
returns c =
    let title = rw c.from.ensures at c.put_title.ensures in
    let keeps = wrote_keeps _ _ _ title in
    let short = refusal_short c.args.number (omega arith) in
    let lent : c.new-w.result.out.now ≡ c.args.out.now = search rules in
    record {
      answer = all_written _ _ title (search rules) (rw lent (omega arith)) (search rules) c.written.ensures;
      bounds = all_within c.put_title.new.w (search rules) c.written.ensures;
      left = search rules;
    }
