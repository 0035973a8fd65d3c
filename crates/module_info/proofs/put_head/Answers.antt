use Rattle.report.proofs.Buffers.{more_append}
use Rattle.pragmas.specs.{Readings.read_by, Pragmas.first_by}
use Rattle.module_info.specs.code.Pieces.{head_bytes}
use Rattle.module_info.proofs.put_head.Goals as goal

pub returns : goal.returns
unfolding head_bytes read_by first_by
returns c =
    rw (
      c.analyze_first-3.ensures,
      c.analyze_first-2.ensures,
      c.analyze_first.ensures,
      c.analyze_ts_references.ensures,
      c.head_comments-head.ensures,
      c.parts.ensures.media,
    ) (simp more_append)
