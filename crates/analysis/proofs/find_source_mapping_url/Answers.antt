use Rattle.laws.proofs.Prelude.{known}
use Rattle.analysis.specs.Row.{first, match_at}
use Rattle.analysis.proofs.{RowSteps.source_mapping_row}
use Rattle.analysis.proofs.find_source_mapping_url.Goals as goal

pub returns-in_err-b : goal.returns-in_err-b
unfolding first
returns-in_err-b c =
    rw c.from_residual-in_err-b.ensures (record {
      answer = rw (
        source_mapping_row,
        known c.one_at.ensures.answer c.in_ok-n.was,
        ← c.run_end-a.ensures.answer,
        known c.assigned_at.ensures.answer c.in_err-b.was,
      );
      bounds = tt;
    })

pub returns : goal.returns
unfolding match_at
returns c =
    record {
      answer = rw (
        source_mapping_row,
        known c.one_at.ensures.answer c.in_ok-n.was,
        ← c.run_end-a.ensures.answer,
        known c.assigned_at.ensures.answer c.in_ok-b.was,
      ) c.bare_at.ensures.answer;
      bounds = c.bare_at.ensures.bounds;
    }
