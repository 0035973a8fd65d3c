use Rattle.laws.proofs.Prelude.{refl, sym, ◌∙◌, ◌-◌, ◌≤◌, ◌<◌, arith}
use Rattle.report.specs.{Encode.encode_dependency, Valid.ValidDependency}
use Rattle.laws.proofs.Among.{end_further, part_further}
use Rattle.report_reader.proofs.Lists.{next_item, no_item}
use Rattle.delivery.specs.{Order.entries_in_turn, Right.names_of, code.Views.modules_in}
use Rattle.delivery.proofs.{ReportEntries.entries_start, Turns.entry_here}
use Rattle.delivery.proofs.entries.late_entry.Goals as goal

pub loop-i-init : goal.loop-i-init
loop-i-init c = (
  end_further c.read_number.ensures.rest c.read_number-count.ensures.rest,
  λ info valid bytes k behind.
      let (u, (n, v, e)) = entries_start valid bytes c.read_number.ensures.read c.read_number-count.ensures.read in
      (info.dependencies, u, (omega (arith, n), v, e), refl),
)

pub returns-in-Some-clause-part : goal.returns-in-Some-clause-part
returns-in-Some-clause-part c = part_further c.loop-i.invariant.0 (rw c.in-Some.is at c.judge_entry.ensures.part)

pub returns-in-Some-clause-answer : goal.returns-in-Some-clause-answer
returns-in-Some-clause-answer c =
    let i = c.loop-i in
    let entry = c.judge_entry in
    λ info valid bytes k behind.
    let (l, u, stand, e) = i.invariant.1 info valid bytes k behind in
    let left : 0 < c.read_number-count.result.0 - i.i = omega (arith, c.loop-i-test.true) in
    let (d, rest, is, v, there, on) = next_item encode_dependency ValidDependency u i.next.now _ l left stand in
    let late = rw c.in-Some.is at (entry.ensures.answer d v _ there).0 in
    sym (e ∙ entry_here is (names_of (modules_in c.args.earlier.now)) k i.i behind late)

pub loop-i-preserved : goal.loop-i-preserved
loop-i-preserved c =
    let i = c.loop-i in
    let entry = c.judge_entry in (
      end_further i.invariant.0 entry.ensures.rest,
      λ info valid bytes k behind.
          let (l, u, stand, e) = i.invariant.1 info valid bytes k behind in
          let left : 0 < c.read_number-count.result.0 - i.i = omega (arith, c.loop-i-test.true) in
          let (d, rest, is, v, there, on) = next_item encode_dependency ValidDependency u i.next.now _ l left stand in
          let (late, next) = entry.ensures.answer d v _ there in
          let (n, v, w) = on entry.result.1.now next in
          (rest, u, (omega (arith, n), v, w), e ∙ entry_here is (names_of (modules_in c.args.earlier.now)) k i.i behind (rw c.in_default.is at late)),
    )

pub returns-clause-answer : goal.returns-clause-answer
unfolding entries_in_turn
returns-clause-answer c =
    let i = c.loop-i in
    λ info valid bytes k behind.
    let (l, u, stand, e) = i.invariant.1 info valid bytes k behind in
    let none : c.read_number-count.result.0 - i.i ≤ 0 = omega (arith, c.loop-i-test.false) in
    sym (e ∙ rw (no_item encode_dependency ValidDependency u i.next.now _ l none stand).0)
