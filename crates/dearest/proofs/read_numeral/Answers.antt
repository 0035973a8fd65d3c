use Rattle.laws.proofs.Prelude.{arith, ⊎_elim, sym, length}
use borrow.Author.Tests.{eqb-false}
use Rattle.dearest.proofs.Numerals.{finished, no_digit, too_large, zero_first, onward}
use Rattle.dearest.proofs.read_numeral.Goals as goal

pub returns-then-not-is_ascii_digit : goal.returns-then-not-is_ascii_digit
returns-then-not-is_ascii_digit c =
    no_digit c.loop-digit.invariant c.loop-digit-test.true
    (λ d. ⊎_elim (λ l. omega (arith, l)) (λ h. omega (arith, h)) c.if-not-is_ascii_digit.ensures.cases)

pub returns-then-n-eq0 : goal.returns-then-n-eq0
returns-then-n-eq0 c =
    zero_first c.loop-digit.invariant c.loop-digit-test.true c.if-not-is_ascii_digit.ensures.cases (omega (arith, c.from.ensures))

pub returns-then-n-gt-LONGEST : goal.returns-then-n-gt-LONGEST
returns-then-n-gt-LONGEST c = too_large c.loop-digit.invariant c.loop-digit-test.true (omega (arith, c.from.ensures))

pub loop-digit-preserved : goal.loop-digit-preserved
loop-digit-preserved c =
    rw c.from.ensures
    (onward c.loop-digit.invariant c.loop-digit-test.true c.if-not-is_ascii_digit.ensures.cases
    (λ e. omega (arith, c.from.ensures)) (omega (arith, c.from.ensures)))

pub returns : goal.returns
returns c =
    let some = eqb-false (length c.args.digits.now) 0 (sym c.if-is_empty.ensures) in
    finished c.loop-digit.invariant (omega arith) c.loop-digit-test.false
