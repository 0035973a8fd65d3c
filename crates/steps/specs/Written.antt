-- A row written as numbers.
use Rattle.std.specs.Prelude.{cond, List, [], ◌∷◌, ◌++◌, ℕ, length}
use Rattle.text.specs.declared.class.Class.{Class}
use Rattle.text.specs.declared.class.Class.TheVariants.{White, NotWhite, WhiteOrStar, NotLf, Quote, NotQuote, SourceMark, Alphabetic, NameRest}
use Rattle.analysis.specs.Row.{Row, done, start, word, one, longest, shortest, from, to, either}
use Rattle.steps.specs.Codes.{START, TO, WORD, ONE, LONGEST, SHORTEST, FROM, EITHER, WHITE, not_white, white_or_star, not_lf, QUOTE, not_quote}
use Rattle.steps.specs.Codes.{source_mark, ALPHABETIC, name_rest, BARE, MARKED}

abbrev pub code_of : Class → ℕ
code_of White = WHITE
code_of NotWhite = not_white
code_of WhiteOrStar = white_or_star
code_of NotLf = not_lf
code_of Quote = QUOTE
code_of NotQuote = not_quote
code_of SourceMark = source_mark
code_of Alphabetic = ALPHABETIC
code_of NameRest = name_rest

unfoldable pub written : Row → List ℕ
written done = []
written (start r) = START ∷ written r
written (word w r) = WORD ∷ length w ∷ w ++ written r
written (one c r) = ONE ∷ code_of c ∷ written r
written (longest c r) = LONGEST ∷ code_of c ∷ written r
written (shortest c r) = SHORTEST ∷ code_of c ∷ written r
written (from quoted r) = FROM ∷ cond quoted MARKED BARE ∷ written r
written (to r) = TO ∷ written r
written (either a b) = EITHER ∷ length (written a) ∷ written a ++ written b
