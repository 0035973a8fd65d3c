use Rattle.laws.proofs.Prelude.{◌≡◌, rules, refl, sym, ap, ◌∙◌, [], append-nil, arith, length, take}
use Rattle.report.{specs.Encode.encode, proofs.Buffers.more_append, proofs.Buffers.wrote_keeps, proofs.Buffers.keeps_then}
use Rattle.citation.specs.Citation.{citation}
use Rattle.citation.proofs.{Fours.recounted_front, Printing.citation_same, Whole.all_written, Whole.all_within, Lengths.citation_short}
use Rattle.citation.proofs.cite.cite_report.Goals as goal

pub returns : goal.returns
unfolding citation
returns c =
    let source = c.args.source.now in
    let numbers = c.args.numbers.now in
    let last = c.last_four in
    let counted = c.cite_lines-lines.ensures in
    let title = c.put_title.ensures in
    let cited = c.cite_lines.ensures in
    let keeps = keeps_then (wrote_keeps _ _ _ title) cited.left in
    let lent : c.new-w.result.out.now ≡ c.args.out.now = search rules in
    record {
      answer = λ m v e.
          let all = sym (append-nil (encode m) ∙ e) in
          let (p, _) = counted.answer m v [] all in
          let (q, _) = cited.answer m v [] all in
          let wide = citation_same _ _ (recounted_front source last.result last.ensures.answer) numbers m in
          let short = citation_short (take last.result source) numbers m v in
          rw (← wide) (all_written _ _ (rw (title, ← more_append, p.counted) at q.written) refl
          (omega (arith, short, ap length e, counted.left.size, ap length lent, c.requires)) (search rules) c.written.ensures);
      bounds = all_within c.cite_lines.new.w (search rules) c.written.ensures;
      left = search rules;
    }
