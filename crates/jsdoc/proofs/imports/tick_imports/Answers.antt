use Rattle.laws.proofs.Prelude.{rules, refl}
use Rattle.jsdoc.proofs.Listing.{tick, readings_ticked}
use Rattle.jsdoc.proofs.imports.tick_imports.Goals as goal

pub returns : goal.returns
returns c =
    rw (
      c.mark_readings.ensures tick (λ x i m r p. search rules) (λ x i k m h. refl) 0,
      c.fill.ensures.after (λ y e. e),
      c.requires,
    ) (readings_ticked c.args.body.now)
