use Rattle.laws.proofs.Prelude.{refl, told}
use Rattle.sheet_heads.proofs.Found.{piece_found}
use Rattle.arguments.proofs.{Pieces.one_only}
use Rattle.arguments.proofs.argument.parse_template.Goals as goal

pub returns-in-Ok-Some-default-clause-value : goal.returns-in-Ok-Some-default-clause-value
returns-in-Ok-Some-default-clause-value c source levels ps u e =
    let p = c.args.pieces in
    let arm = c.in-Ok-Some-default in
    let read = rw arm.field-0-0-is at (told c.read_piece.ensures arm.is) in
    rw (one_only p.holes p.bytes.now e c.if-pieces-eq0.true read) (refl, refl)

pub returns-in-Ok-None-default-clause-value : goal.returns-in-Ok-None-default-clause-value
returns-in-Ok-None-default-clause-value c source levels ps u e =
    let p = c.args.pieces in
    let arm = c.in-Ok-None-default in
    let read = rw arm.field-0-0-is at (told c.read_piece.ensures arm.is) in
    rw (one_only p.holes p.bytes.now e c.if-pieces-eq0.true read) (refl, refl)

pub returns-in-Ok-Some-default-clause-parts : goal.returns-in-Ok-Some-default-clause-parts
returns-in-Ok-Some-default-clause-parts c =
    let arm = c.in-Ok-Some-default in
    piece_found.found c.args.pieces.bytes.now (rw arm.field-0-0-is at (told c.read_piece.ensures arm.is))
