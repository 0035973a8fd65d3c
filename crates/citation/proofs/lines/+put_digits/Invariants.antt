-- The number's places fall at each call.
use Rattle.citation.proofs.lines.+put_digits.Given as goal

abbrev pub decreases-put_digits : goal.decreases-put_digits
decreases-put_digits l = l.places
