use Rattle.laws.proofs.Prelude.{arith, ◌∙◌}
use Rattle.pragmas.specs.Pragmas.{end_comments}
use Rattle.pragmas.specs.declared.readings.Rule.TheVariants.{StandardSourceMap}
use Rattle.pragmas.specs.code.Views.{captured_as}
use Rattle.pragmas.proofs.Counted.{last_source}
use Rattle.module_info.proofs.{Accepted.sheet_short, SourceMap.located_as, SourceMap.map_read}
use Rattle.module_info.proofs.source_map.read_source_map.Goals as goal

pub returns-in_err-taken : goal.returns-in_err-taken
returns-in_err-taken c =
    let t = c.args.accepted.now.accepted.0 in
    let last = rw c.end_comments-end.ensures at c.find_last.ensures in
    rw c.from_residual.ensures (record { answer = rw (← last, c.in_err-taken.was) at (map_read t); bounds = tt })

pub locate-requires : goal.locate-requires
locate-requires c =
    let t = c.args.accepted.now.accepted.0 in
    let last = rw c.end_comments-end.ensures at c.find_last.ensures in
    let own = rw (← last, c.in_ok-taken.was) at (last_source StandardSourceMap t.source (end_comments t)) in
    let inside = c.parts.ensures.place.inside in
    let short = sheet_short _ c.args.accepted.now.accepted.1 in
    rw own (omega arith)

pub returns : goal.returns
returns c =
    let t = c.args.accepted.now.accepted.0 in
    let last = rw c.end_comments-end.ensures at c.find_last.ensures in
    let own = rw (← last, c.in_ok-taken.was) at (last_source StandardSourceMap t.source (end_comments t)) in
    let located = located_as c.args.accepted.now.sheet.now (captured_as c.in_ok-taken.taken) (rw (← own) at c.parts.ensures.place) c.locate.ensures.bounds in
    let read = rw (← last, c.in_ok-taken.was) at (map_read t) in
    rw c.locate.ensures.answer (record { answer = located.0 ∙ read; bounds = located.1 })
