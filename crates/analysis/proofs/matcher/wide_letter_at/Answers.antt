use Rattle.laws.proofs.Prelude.{arith, ◌≡◌, eq-eqb}
use Rattle.analysis.specs.Letters.{letter_at}
use Rattle.analysis.proofs.{Spelling.letter_fits}
use Rattle.analysis.proofs.matcher.wide_letter_at.Goals as goal

pub returns-then-fold_case : goal.returns-then-fold_case
unfolding letter_at
returns-then-fold_case c =
    let a = c.args in
    let e : c.char_at-c.result.len ≡ letter_at a.letter a.s.now =
    rw (← c.char_at-c.ensures, ← c.fold_case.ensures, ← (rw c.from.ensures at c.fold_case-2.ensures), eq-eqb _ _ c.if-fold_case.true) in
    record { answer = e; bounds = omega (arith, letter_fits a.letter a.s.now) }
