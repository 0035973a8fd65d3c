-- A pattern as a table of numbers: what row it stands for, or what is wrong with it.
use Rattle.std.specs.Prelude.{cond, List, ℕ, zero, suc, eqb, ltb, length, get_or, take, drop, Result, Ok, Err}
use Rattle.text.specs.declared.class.Class.{Class}
use Rattle.text.specs.declared.class.Class.TheVariants.{White, NotWhite, WhiteOrStar, NotLf, Quote, NotQuote, SourceMark, Alphabetic, NameRest}
use Rattle.analysis.specs.Row.{Row, done, start, word, one, longest, shortest, from, to, either}
use Rattle.steps.specs.declared.table.Ill.{Ill}
use Rattle.steps.specs.declared.table.Ill.TheVariants.{TooLong, UnknownStep, UnknownClass, UnknownMarks, CutOff}
use Rattle.steps.specs.Codes.{START, TO, WORD, ONE, LONGEST, FROM, EITHER, WHITE, not_white, white_or_star, not_lf, QUOTE, not_quote}
use Rattle.steps.specs.Codes.{source_mark, ALPHABETIC, name_rest, MARKED}

-- the class of a number
unfoldable pub class_of : ℕ → Result Class Ill
class_of n =
    cond (eqb n WHITE) (Ok White)
    (cond (eqb n not_white) (Ok NotWhite)
    (cond (eqb n white_or_star) (Ok WhiteOrStar)
    (cond (eqb n not_lf) (Ok NotLf)
    (cond (eqb n QUOTE) (Ok Quote)
    (cond (eqb n not_quote) (Ok NotQuote)
    (cond (eqb n source_mark) (Ok SourceMark)
    (cond (eqb n ALPHABETIC) (Ok Alphabetic)
    (cond (eqb n name_rest) (Ok NameRest) (Err UnknownClass)))))))))

-- what a row goes on with: nothing; a step before the row that the numbers left stand for; or two alternatives
pub data Next : Type 0 where
  nothing : Next
  step : (Row → Row) → List ℕ → Next
  fork : List ℕ → List ℕ → Next

-- a step with a class, or what is wrong with it
abbrev pub at_class : (Class → Row → Row) → List ℕ → Result Class Ill → Result Next Ill
at_class f left (Ok c) = Ok (step (f c) left)
at_class f left (Err x) = Err x

-- the step of a code that has an argument, n, with these numbers behind it
unfoldable pub argued_by : ℕ → ℕ → List ℕ → Result Next Ill
argued_by code n left =
    cond (eqb code WORD) (cond (ltb (length left) n) (Err CutOff) (Ok (step (word (take n left)) (drop n left))))
    (cond (eqb code EITHER) (cond (ltb (length left) n) (Err CutOff) (Ok (fork (take n left) (drop n left))))
    (cond (eqb code FROM) (cond (ltb MARKED n) (Err UnknownMarks) (Ok (step (from (eqb n MARKED)) left)))
    (cond (eqb code ONE) (at_class one left (class_of n))
    (cond (eqb code LONGEST) (at_class longest left (class_of n)) (at_class shortest left (class_of n))))))

-- the step that the numbers begin with
unfoldable pub step_of : List ℕ → Result Next Ill
step_of t =
    cond (eqb (length t) 0) (Ok nothing)
    (cond (eqb (get_or t 0 0) START) (Ok (step start (drop 1 t)))
    (cond (eqb (get_or t 0 0) TO) (Ok (step to (drop 1 t)))
    (cond (ltb (get_or t 0 0) WORD) (Err UnknownStep)
    (cond (ltb EITHER (get_or t 0 0)) (Err UnknownStep)
    (cond (eqb (length t) 1) (Err CutOff)
    (argued_by (get_or t 0 0) (get_or t 1 0) (drop 2 t)))))))

-- the row, or what is wrong
pub data Decoded : Type 0 where
  row : Row → Decoded
  ill : Ill → Decoded

-- a step before what is decoded behind it
abbrev pub before : (Row → Row) → Decoded → Decoded
before f (row r) = row (f r)
before f (ill x) = ill x

-- two alternatives
abbrev pub between : Decoded → Decoded → Decoded
between (row a) d = before (either a) d
between (ill x) d = ill x

-- a row by its first step, d being what numbers stand for
abbrev pub stepwise : Result Next Ill → (List ℕ → Decoded) → Decoded
stepwise (Ok nothing) d = row done
stepwise (Ok (step f t)) d = before f (d t)
stepwise (Ok (fork t u)) d = between (d t) (d u)
stepwise (Err x) d = ill x

-- at most n steps deep
unfoldable pub row_by : ℕ → List ℕ → Decoded
row_by zero t = ill CutOff
row_by (suc n) t = stepwise (step_of t) (λ u. row_by n u)

-- what numbers stand for: no row is deeper than it has numbers (proofs/Decoding, law `row_in`)
abbrev pub row_in : List ℕ → Decoded
row_in t = row_by (suc (length t)) t

-- what a table stands for
unfoldable pub decode : List ℕ → Decoded
decode t = cond (ltb 255 (length t)) (ill TooLong) (row_in t)
