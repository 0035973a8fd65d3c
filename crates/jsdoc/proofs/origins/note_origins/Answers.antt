use Rattle.laws.proofs.Prelude.{rules}
use Rattle.jsdoc.proofs.Openers.{note, note_stays, noted_openers}
use Rattle.jsdoc.proofs.origins.note_origins.Goals as goal

pub returns : goal.returns
returns c =
    rw (
      c.mark_readings.ensures note (λ x i m r p. search rules) note_stays 0,
      c.fill.ensures.after (λ y e. e),
      c.requires.origins_len,
    ) (noted_openers c.args.body.now)
