-- The numbers of a table by name, as in src/codes.rt.
use Rattle.std.specs.Prelude.{ℕ}

-- steps
abbrev pub START : ℕ
START = 1

abbrev pub TO : ℕ
TO = 2

abbrev pub WORD : ℕ
WORD = 3

abbrev pub ONE : ℕ
ONE = 4

abbrev pub LONGEST : ℕ
LONGEST = 5

abbrev pub SHORTEST : ℕ
SHORTEST = 6

abbrev pub FROM : ℕ
FROM = 7

abbrev pub EITHER : ℕ
EITHER = 8

-- classes of characters
abbrev pub WHITE : ℕ
WHITE = 1

abbrev pub not_white : ℕ
not_white = 2

abbrev pub white_or_star : ℕ
white_or_star = 3

abbrev pub not_lf : ℕ
not_lf = 4

abbrev pub QUOTE : ℕ
QUOTE = 5

abbrev pub not_quote : ℕ
not_quote = 6

abbrev pub source_mark : ℕ
source_mark = 7

abbrev pub ALPHABETIC : ℕ
ALPHABETIC = 8

abbrev pub name_rest : ℕ
name_rest = 9

-- captured texts
abbrev pub BARE : ℕ
BARE = 0

abbrev pub MARKED : ℕ
MARKED = 1
