use Rattle.dearest.proofs.Numerals.{ReadUpTo}
use Rattle.dearest.proofs.read_numeral.Given as goal

abbrev pub invariant-loop-digit : goal.invariant-loop-digit
invariant-loop-digit l = ReadUpTo l.digits l.digit-index l.n
