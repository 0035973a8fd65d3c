-- What numbers stand for, by their first step.
use Rattle.std.specs.Prelude.{Result, Ok, Err}
use Rattle.std.specs.Result.{result_and}
use Rattle.laws.proofs.Prelude.{◌≡◌, refl, sym, ap, ◌∙◌, List, ℕ, zero, suc, ◌<◌, arith, eqb, ltb, length, get_or, drop, length-take, length-drop}
use borrow.Author.Tests.{eqb-false}
use Rattle.std.proofs.lemmas.Bool.{cond_both}
use Rattle.text.specs.declared.class.Class.{Class}
use Rattle.analysis.specs.Row.{Row, one, longest, shortest, either}
use Rattle.steps.specs.declared.table.{Ill.Ill, Step.Step}
use Rattle.steps.specs.Codes.{START, TO, WORD, ONE, LONGEST, FROM, EITHER}
use Rattle.steps.specs.Table.{Next, nothing, step, fork, Decoded, row, ill, before, between, class_of, at_class, argued_by, step_of, stepwise, row_by, row_in}
use Rattle.steps.specs.{Answers.verdict_of, code.Views.next_as, code.Views.StepWithin}

class_inside : (f : Class → Row → Row) (t : List ℕ) (n : ℕ) → length t < n → (r : Result Class Ill) → StepWithin (at_class f t r) n
class_inside f t n l (Ok c) = l
class_inside f t n l (Err x) = tt

argued_inside : (code n : ℕ) (left : List ℕ) (total : ℕ) → length left < total → StepWithin (argued_by code n left) total
unfolding argued_by
argued_inside code n left total l =
    cond_both (eqb code WORD) _ _ P (λ _. cond_both (ltb (length left) n) _ _ P (λ _. tt) (λ _. shorter))
    (λ _. cond_both (eqb code EITHER) _ _ P (λ _. cond_both (ltb (length left) n) _ _ P (λ _. tt) (λ _. (omega (arith, length-take n left), shorter)))
    (λ _. cond_both (eqb code FROM) _ _ P (λ _. cond_both (ltb 1 n) _ _ P (λ _. tt) (λ _. l))
    (λ _. cond_both (eqb code ONE) _ _ P (λ _. class_inside one left total l (class_of n))
    (λ _. cond_both (eqb code LONGEST) _ _ P (λ _. class_inside longest left total l (class_of n))
    (λ _. class_inside shortest left total l (class_of n))))))
  where
    P : Result Next Ill → Type 0
    P x = StepWithin x total

    shorter : length (drop n left) < total
    shorter = omega (arith, length-drop n left)

step_inside : (t : List ℕ) → StepWithin (step_of t) (length t)
unfolding step_of
step_inside t =
    cond_both (eqb (length t) 0) _ _ P (λ _. tt)
    (λ a. let some = eqb-false (length t) 0 a in cond_both (eqb (get_or t 0 0) START) _ _ P (λ _. omega (arith, length-drop 1 t))
    (λ _. cond_both (eqb (get_or t 0 0) TO) _ _ P (λ _. omega (arith, length-drop 1 t))
    (λ _. cond_both (ltb (get_or t 0 0) WORD) _ _ P (λ _. tt)
    (λ _. cond_both (ltb EITHER (get_or t 0 0)) _ _ P (λ _. tt)
    (λ _. cond_both (eqb (length t) 1) _ _ P (λ _. tt)
    (λ b. let more = eqb-false (length t) 1 b in argued_inside (get_or t 0 0) (get_or t 1 0) (drop 2 t) (length t) (omega (arith, length-drop 2 t))))))))
  where
    P : Result Next Ill → Type 0
    P x = StepWithin x (length t)

-- the step that was read
pub read : (t : List ℕ) {x y : Step} → next_as (Ok x) ≡ step_of t → x ≡ y → step_of t ≡ next_as (Ok y)
read t e is = sym e ∙ ap (λ z. next_as (Ok z)) is

-- what is alike of fewer numbers is alike with a step before them
alike : (x : Result Next Ill) (n : ℕ) → StepWithin x n → {d e : List ℕ → Decoded} → ((u : List ℕ) → length u < n → d u ≡ e u) → stepwise x d ≡ stepwise x e
alike (Ok nothing) n i h = refl
alike (Ok (step f t)) n i h = ap (before f) (h t i)
alike (Ok (fork t u)) n i h = rw (h t i.0, h u i.1)
alike (Err x) n i h = refl

-- any depth that is more than the numbers will do
deep_enough : (m n : ℕ) (t : List ℕ) → length t < m → length t < n → row_by m t ≡ row_by n t
unfolding row_by
deep_enough zero n t h k = absurd (omega arith)
deep_enough (suc m) zero t h k = absurd (omega arith)
deep_enough (suc m) (suc n) t h k = alike (step_of t) (length t) (step_inside t) (λ u l. deep_enough m n u (omega arith) (omega arith))

-- numbers by their first step
pub row_in_lem : (t : List ℕ) {x : Result Next Ill} → step_of t ≡ x → row_in t ≡ stepwise x (λ u. row_in u)
unfolding row_by
row_in_lem t e = alike (step_of t) (length t) (step_inside t) (λ u l. deep_enough (length t) (suc (length u)) u l (omega arith)) ∙ rw e

-- a row behind a step, and two alternatives
pub before_row : {f : Row → Row} (d : Decoded) {q : Row} → before f d ≡ row q → (r : Row) × (d ≡ row r) × (q ≡ f r)
before_row (row r) e = (r, refl, cc)
before_row (ill x) e = cc

pub between_rows : (a b : Decoded) {q : Row} → between a b ≡ row q → (x : Row) × (a ≡ row x) × (y : Row) × (b ≡ row y) × (q ≡ either x y)
between_rows (row x) b e = let (y, h, same) = before_row b e in (x, refl, y, h, same)
between_rows (ill x) b e = cc

-- the verdict goes from one step to the next
verdict_behind : (f : Row → Row) (d : Decoded) → verdict_of (before f d) ≡ verdict_of d
verdict_behind f (row r) = refl
verdict_behind f (ill x) = refl

-- the verdict by the first step
abbrev judged_by : Result Next Ill → Result (Unit {0}) Ill
judged_by (Ok nothing) = Ok tt
judged_by (Ok (step f t)) = verdict_of (row_in t)
judged_by (Ok (fork t u)) = result_and (verdict_of (row_in t)) (verdict_of (row_in u))
judged_by (Err x) = Err x

pub judged : (t : List ℕ) → verdict_of (row_in t) ≡ judged_by (step_of t)
judged t = rw (row_in_lem t refl) (go (step_of t))
  where
    go : (x : Result Next Ill) → verdict_of (stepwise x (λ u. row_in u)) ≡ judged_by x
    go (Ok nothing) = refl
    go (Ok (step f t)) = verdict_behind f (row_in t)
    go (Ok (fork t u)) = both (row_in t)
      where
        both : (d : Decoded) → verdict_of (between d (row_in u)) ≡ result_and (verdict_of d) (verdict_of (row_in u))
        both (row r) = verdict_behind (either r) (row_in u)
        both (ill i) = refl
    go (Err x) = refl
