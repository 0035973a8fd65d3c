use Rattle.laws.proofs.Prelude.{rules, arith, length}
use Rattle.std.specs.Cmp.Lexicographic.{texts_ties}
use Rattle.text.proofs.Words.{order_is}
use Rattle.attributes.proofs.Insertion.{slot_same, slot_before}
use Rattle.attributes.proofs.pairs.Pairs.find.Goals as goal

pub returns-in-Some : goal.returns-in-Some
returns-in-Some c =
    let rows = c.as_slice-rows in
    rw rows.ensures.answer at
    (slot_same c.args.p rows.result.now c.in-Some.i (search rules) (λ k d l m. rw order_is (search rules))
    (λ d. rw order_is (search rules, rw (← texts_ties) (search rules))))

pub returns-in-Some-2 : goal.returns-in-Some-2
returns-in-Some-2 c =
    let rows = c.as_slice-rows in
    rw rows.ensures.answer at
    (slot_before c.args.p rows.result.now c.in-Some.i (search rules) (λ k d l m. rw order_is (search rules))
    (λ l d. rw order_is (search rules, rw (← texts_ties) (search rules))))

pub returns-in-None : goal.returns-in-None
returns-in-None c =
    let rows = c.as_slice-rows in
    rw rows.ensures.answer at
    (slot_before c.args.p rows.result.now (length rows.result.now) (search rules) (λ k d l m. rw order_is (search rules))
    (λ l. absurd (omega arith)))
