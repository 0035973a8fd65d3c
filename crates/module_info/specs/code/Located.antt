-- Where a reading stands in a sheet whose source begins at a place.
use Rattle.std.specs.Prelude.{ℕ, ◌+◌}
use Rattle.text.specs.Position.{characters, position_of}
use Rattle.sheet.specs.Lookups.{body_span}
use Rattle.pragmas.specs.Readings.{place_in}
use Rattle.pragmas.specs.code.Captured.{Captured}
use Rattle.module_info.specs.declared.source_map.SourceMap.{SourceMap}

abbrev pub place_from : ℕ → Captured → SourceMap
place_from base t = record {
  from = base + (body_span t.comment).start + t.capture.from;
  to = base + (body_span t.comment).start + t.capture.to;
  start = position_of characters t.source (place_in t.comment t.capture).start;
  end = position_of characters t.source (place_in t.comment t.capture).end;
}
