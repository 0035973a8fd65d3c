use Rattle.laws.proofs.Prelude.{◌≡◌, ◌≤◌, length, drop}
use Rattle.analysis.specs.Letters.{word_at}
use Rattle.analysis.proofs.matcher.match_word.Given as goal

abbrev pub invariant-loop-letter : goal.invariant-loop-letter
invariant-loop-letter l = (l.i ≤ length l.s) × (word_at (drop l.letter-index l.word) l.s l.i ≡ word_at l.word l.s l.at)
