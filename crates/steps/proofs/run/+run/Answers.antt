use Rattle.laws.proofs.Prelude.{rules, refl, sym, arith}
use Rattle.steps.proofs.Decoding.{read}
use Rattle.steps.proofs.Running.{at_bad, at_step, unpassed, short_hit, short_stop, short_on, long_all, long_hit, long_stop, long_back}
use Rattle.steps.proofs.run.+run.Goals as goal

pub match_from-returns-in_default : goal.match_from-returns-in_default
match_from-returns-in_default t c = at_bad c.loop-step.invariant.2 (sym c.in_default.ensures.answer)

pub match_from-returns-in_err-here-in-Pass : goal.match_from-returns-in_err-here-in-Pass
match_from-returns-in_err-here-in-Pass t c =
    let is = read c.loop-step.rest.now c.in-Ok.ensures.answer c.in-Pass.is in
    rw c.from_residual.ensures (unpassed c.loop-step.invariant.2 is c.pass.ensures.answer c.in_err-here-in-Pass.was)

pub match_from-returns-in-Longest : goal.match_from-returns-in-Longest
match_from-returns-in-Longest t c = at_step c.loop-step.invariant.2 (search rules) c.match_longest.ensures

pub match_from-returns-in-Shortest : goal.match_from-returns-in-Shortest
match_from-returns-in-Shortest t c = at_step c.loop-step.invariant.2 (search rules) c.match_shortest.ensures

pub match_longest-loop-from-init : goal.match_longest-loop-from-init
match_longest-loop-from-init t c = (omega (arith, c.run_end-end.ensures.answer), c.run_end-end.ensures.bounds, λ d l. l)

pub match_longest-returns-then-is_some : goal.match_longest-returns-then-is_some
match_longest-returns-then-is_some t c =
    long_hit c.match_from-found.ensures
    (c.loop-from.invariant.2 c.args.class (long_all c.run_end-end.ensures.answer)) c.if-is_some.ensures

pub match_longest-returns-then-end-from : goal.match_longest-returns-then-end-from
match_longest-returns-then-end-from t c =
    long_stop c.match_from-found.ensures
    (c.loop-from.invariant.2 c.args.class (long_all c.run_end-end.ensures.answer)) c.if-is_some.ensures c.if-end-from.true

pub match_longest-loop-from-preserved : goal.match_longest-loop-from-preserved
match_longest-loop-from-preserved t c =
    let left = c.loop-from.invariant.2 c.args.class (long_all c.run_end-end.ensures.answer) in (
      (long_back c.match_from-found.ensures left c.if-is_some.ensures c.if-end-from.false c.char_before-end.ensures.answer).0,
      omega (arith, c.char_before-end.ensures.bounds),
      λ d l. (long_back c.match_from-found.ensures (c.loop-from.invariant.2 d l) c.if-is_some.ensures
          c.if-end-from.false c.char_before-end.ensures.answer).1,
    )

pub match_shortest-loop-class-init : goal.match_shortest-loop-class-init
match_shortest-loop-class-init t c = (c.requires, record { on = λ q i. refl })

pub match_shortest-returns-then-is_some : goal.match_shortest-returns-then-is_some
match_shortest-returns-then-is_some t c = short_hit c.match_from-found.ensures c.loop-class.invariant.1 c.if-is_some.ensures

pub match_shortest-returns-in_err-end : goal.match_shortest-returns-in_err-end
match_shortest-returns-in_err-end t c =
    rw c.from_residual.ensures (short_stop c.match_from-found.ensures c.loop-class.invariant.1 c.if-is_some.ensures c.in_err-end.ensures.answer)

pub match_shortest-loop-class-smaller : goal.match_shortest-loop-class-smaller
match_shortest-loop-class-smaller t c =
    let l = short_on c.match_from-found.ensures c.loop-class.invariant.1 c.if-is_some.ensures c.in_ok-end.ensures.answer in
    omega (arith, l.0, c.in_ok-end.ensures.bounds)

pub match_shortest-loop-class-preserved : goal.match_shortest-loop-class-preserved
match_shortest-loop-class-preserved t c = (
  c.in_ok-end.ensures.bounds,
  (short_on c.match_from-found.ensures c.loop-class.invariant.1 c.if-is_some.ensures c.in_ok-end.ensures.answer).1,
)
