use Rattle.laws.proofs.Prelude.{sym, ap, ◌∙◌}
use Rattle.citation.specs.Citation.{refusal}
use Rattle.cite.proofs.{Printed.reported, Printed.reported_lines, Printed.refused_lines, Placed.editor_columns, Revised.kept_lines}
use Rattle.cite.proofs.cite.Goals as goal
use Rattle.cite.proofs.cite.Goals.{in-Ok, in-Err}

pub shared_ref_as_front-cite_report : goal.shared_ref_as_front-cite_report
shared_ref_as_front-cite_report c =
    let answered = rw (c.told-report, c.in-Ok.is) at c.module_info_with_replaced.ensures.answer in
    (reported answered (rw (c.told-notes, c.in-Ok.is) at c.module_info_with_replaced.ensures.beside)).within

pub returns : goal.returns
returns c =
    let demands = rw c.told-report at c.module_info_with_replaced.ensures.answer in
    let notes = rw c.told-notes at c.module_info_with_replaced.ensures.beside in
    let source = c.find_source-source.ensures in
    record {
      answer = elim c.match-module_info_with_replaced.branch [
        | in-Ok w ↦
            let found = reported (rw w.in-Ok.is at demands) (rw w.in-Ok.is at notes) in
            let long = c.module_info_with_replaced.auto.notes ∙ c.told-notes in
            rw (w.lines-is, w.length-is) (reported_lines source found long _ _ w.cite_report-length.ensures.answer)
        | in-Err w ↦
            let cited = w.cite_refusal-length.ensures.answer in
            rw (
              w.lines-is,
              w.length-is,
              refused_lines _ source (rw w.in-Err.is at demands) (rw w.in-Err.is at notes) ∙ ap refusal (sym w.number.ensures),
            ) cited.1
      ];
      meaning = (editor_columns demands, kept_lines demands);
    }
