use Rattle.laws.proofs.Prelude.{◌≡◌, flat_map, drop}
use Rattle.sheet.specs.Lookups.{body, body_span}
use Rattle.report.{specs.Buffer.written_as, specs.Buffer.more, specs.Origin.encode_origin}
use Rattle.jsdoc_list.specs.Origins.{openers_from}
use Rattle.jsdoc_list.proofs.notes.put_openers.Given as goal

abbrev pub invariant-loop-noted : goal.invariant-loop-noted
invariant-loop-noted l =
    let b = body l.c.source l.c.comment in
    let start = (body_span l.c.comment).start in
    more (written_as l.fn.w) (flat_map encode_origin (openers_from b start l.origins))
    ≡ more (written_as l.w) (flat_map encode_origin (openers_from b start (drop l.noted-index l.origins)))
