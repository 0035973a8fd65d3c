-- Classes of characters, a character of a class at the front of a text, and the longest run of such characters.
use Rattle.std.specs.Prelude.{Bool, true, false, not, cond, List, [], ◌∷◌, ℕ, zero, suc, ◌+◌, drop}
use Rattle.text.specs.declared.class.Class.{Class}
use Rattle.text.specs.declared.class.Class.TheVariants.{White, NotWhite, WhiteOrStar, NotLf, Quote, NotQuote, SourceMark, Alphabetic, NameRest}
use Rattle.text.specs.declared.utf8.Encoding.TheVariants.{Utf8}
use Rattle.text.specs.Ranges.{Range, ◌to◌, in_ranges}
use Rattle.text.specs.Utf8.{char_at, past}
use Rattle.text.specs.WhiteSpace.{white_space}
use Rattle.text.specs.Alphabetic.{alphabetic}

-- the ranges of a class, beside its regular expression
unfoldable pub ranges : Class → List Range
ranges White = white_space  -- \s
ranges NotWhite = white_space  -- \S
ranges WhiteOrStar = (0x2A to 0x2A) ∷ white_space  -- [\s*]
ranges NotLf = (0x0A to 0x0A) ∷ []  -- .
ranges Quote = (0x22 to 0x22) ∷ (0x27 to 0x27) ∷ []  -- ["']
ranges NotQuote = (0x22 to 0x22) ∷ (0x27 to 0x27) ∷ []  -- [^"']
ranges SourceMark = (0x23 to 0x23) ∷ (0x40 to 0x40) ∷ []  -- [#@]
ranges Alphabetic = alphabetic
ranges NameRest = (0x2D to 0x2D) ∷ (0x3A to 0x3A) ∷ white_space  -- [^\s:-]

-- a class that is what lies outside its ranges
unfoldable pub outside : Class → Bool
outside White = false
outside NotWhite = true
outside WhiteOrStar = false
outside NotLf = true
outside Quote = false
outside NotQuote = true
outside SourceMark = false
outside Alphabetic = false
outside NameRest = true

-- the code point p is of the class
unfoldable pub member : Class → ℕ → Bool
member c p = cond (outside c) (not (in_ranges (ranges c) p)) (in_ranges (ranges c) p)

-- the length of the character that the text begins with, 0 where there is none that passes the test
abbrev pub length_if : (ℕ → Bool) → List ℕ → ℕ
length_if test s = cond (test (char_at Utf8 s).code) (char_at Utf8 s).len 0

-- how many bytes the longest run of characters that pass has at the front, behind `skip` bytes of a character already in it
abbrev pub run_if : (ℕ → Bool) → ℕ → List ℕ → ℕ
run_if test skip [] = 0
run_if test (suc skip) (x ∷ s) = suc (run_if test skip s)
run_if test zero (x ∷ s) = past (length_if test (x ∷ s)) 0 (λ n. suc (run_if test n s))

-- the length of the character of the class that the text begins with, 0 where there is none
unfoldable pub class_at : Class → List ℕ → ℕ
class_at c = length_if (member c)

-- how many bytes the longest run of the class has at the front, behind `skip` bytes of a character already in it
unfoldable pub run : Class → ℕ → List ℕ → ℕ
run c = run_if (member c)

abbrev pub run_length : Class → List ℕ → ℕ
run_length c s = run c 0 s

-- where the longest run of the class ends that begins at a place
abbrev pub run_end : Class → List ℕ → ℕ → ℕ
run_end c s at = at + run_length c (drop at s)
