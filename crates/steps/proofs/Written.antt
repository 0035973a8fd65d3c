-- Every row is what the numbers stand for by which it is written.
use Rattle.std.specs.Prelude.{Ok}
use Rattle.laws.proofs.Prelude.{◌≡◌, refl, ap, ◌∙◌, true, false, List, [], ◌∷◌, ◌++◌, ℕ, suc, arith, eqb, ltb, length, length-append}
use Rattle.laws.proofs.Prelude.{take-append_seam, drop-append_seam, ne_eqb, le-ltb}
use lib.Dec.{eqb-suc-zero}
use Rattle.text.specs.declared.class.Class.{Class}
use Rattle.text.specs.declared.class.Class.TheVariants.{White, NotWhite, WhiteOrStar, NotLf, Quote, NotQuote, SourceMark, Alphabetic, NameRest}
use Rattle.analysis.specs.Row.{Row, done, start, word, one, longest, shortest, from, to, either}
use Rattle.steps.specs.Codes.{START, TO, WORD, ONE, LONGEST, SHORTEST, FROM, EITHER}
use Rattle.steps.specs.Table.{nothing, step, fork, Decoded, row, before, between, class_of, argued_by, step_of, row_in}
use Rattle.steps.specs.Written.{code_of, written}
use Rattle.steps.proofs.Decoding.{row_in_lem}

-- a step with its argument
argued : (code n : ℕ) (u : List ℕ) → eqb code START ≡ false → eqb code TO ≡ false → ltb code WORD ≡ false → ltb EITHER code ≡ false
    → step_of (code ∷ n ∷ u) ≡ argued_by code n u
unfolding step_of
argued code n u a b d e =
    let one : eqb (suc (suc (length u))) 1 ≡ false = ne_eqb (suc (suc (length u))) 1 (λ z. omega arith) in
    rw (eqb-suc-zero (suc (length u)), a, b, d, e, one)

-- the number of a class is that of no other
class_coded : (c : Class) → class_of (code_of c) ≡ Ok c
unfolding class_of
class_coded White = refl
class_coded NotWhite = refl
class_coded WhiteOrStar = refl
class_coded NotLf = refl
class_coded Quote = refl
class_coded NotQuote = refl
class_coded SourceMark = refl
class_coded Alphabetic = refl
class_coded NameRest = refl

-- behind a first row
seam : (a b : List ℕ) → ltb (length (a ++ b)) (length a) ≡ false
seam a b = le-ltb (length (a ++ b)) (length a) (omega (arith, length-append a b))

begins_empty : step_of [] ≡ Ok nothing
unfolding step_of
begins_empty = refl

begins_start : (u : List ℕ) → step_of (START ∷ u) ≡ Ok (step start u)
unfolding step_of
begins_start u = rw (eqb-suc-zero (length u))

begins_to : (u : List ℕ) → step_of (TO ∷ u) ≡ Ok (step to u)
unfolding step_of
begins_to u = rw (eqb-suc-zero (length u))

pub stands_for : (r : Row) → row_in (written r) ≡ row r
unfolding written argued_by
stands_for done = row_in_lem [] begins_empty
stands_for (start r) = row_in_lem (START ∷ written r) (begins_start (written r)) ∙ ap (before start) (stands_for r)
stands_for (to r) = row_in_lem (TO ∷ written r) (begins_to (written r)) ∙ ap (before to) (stands_for r)
stands_for (word w r) =
    row_in_lem (WORD ∷ length w ∷ w ++ written r) {x = Ok (step (word w) (written r))}
    (argued WORD (length w) (w ++ written r) refl refl refl refl ∙ rw (seam w (written r), take-append_seam w (written r), drop-append_seam w (written r)))
    ∙ ap (before (word w)) (stands_for r)
stands_for (one c r) =
    row_in_lem (ONE ∷ code_of c ∷ written r) {x = Ok (step (one c) (written r))}
    (argued ONE (code_of c) (written r) refl refl refl refl ∙ rw (class_coded c))
    ∙ ap (before (one c)) (stands_for r)
stands_for (longest c r) =
    row_in_lem (LONGEST ∷ code_of c ∷ written r) {x = Ok (step (longest c) (written r))}
    (argued LONGEST (code_of c) (written r) refl refl refl refl ∙ rw (class_coded c))
    ∙ ap (before (longest c)) (stands_for r)
stands_for (shortest c r) =
    row_in_lem (SHORTEST ∷ code_of c ∷ written r) {x = Ok (step (shortest c) (written r))}
    (argued SHORTEST (code_of c) (written r) refl refl refl refl ∙ rw (class_coded c))
    ∙ ap (before (shortest c)) (stands_for r)
stands_for (from true r) = row_in_lem (FROM ∷ 1 ∷ written r) {x = Ok (step (from true) (written r))} (argued FROM 1 (written r) refl refl refl refl) ∙
    ap (before (from true)) (stands_for r)
stands_for (from false r) = row_in_lem (FROM ∷ 0 ∷ written r) {x = Ok (step (from false) (written r))} (argued FROM 0 (written r) refl refl refl refl) ∙
    ap (before (from false)) (stands_for r)
stands_for (either a b) =
    row_in_lem (EITHER ∷ length (written a) ∷ written a ++ written b) {x = Ok (fork (written a) (written b))}
    (argued EITHER (length (written a)) (written a ++ written b) refl refl refl refl
    ∙ rw (seam (written a) (written b), take-append_seam (written a) (written b), drop-append_seam (written a) (written b)))
    ∙ ap (λ (d : Decoded). between d (row_in (written b))) (stands_for a)
    ∙ ap (between (row a)) (stands_for b)
