use Rattle.laws.proofs.Prelude.{arith, told}
use Rattle.arguments.proofs.Chains.{check_passed, check_failed, checked_refused, string_counted, plus_unknown, at_right, plus_counted, not_a_chain}
use Rattle.arguments.proofs.bin.+visit_bin.Goals as goal

pub returns-in-String : goal.returns-in-String
returns-in-String t c =
    let past = rw c.in-String.is at c.read_expression.ensures.bounds in
    record {
      answer = λ n u e. string_counted (rw c.in-String.is at (c.read_expression.ensures.answer n u e));
      bounds = past.0;
    }

pub returns-in_err-n-in-Plus : goal.returns-in_err-n-in-Plus
returns-in_err-n-in-Plus t c =
    rw c.from_residual.ensures (record {
      answer = λ n u e. plus_unknown (rw c.in-Plus.is at (c.read_expression.ensures.answer n u e)) (rw c.in_err-n-in-Plus.was at c.visit_bin.ensures.answer);
      bounds = tt;
    })

pub returns-in_err-next-in-Plus : goal.returns-in_err-next-in-Plus
returns-in_err-next-in-Plus t c =
    let (r, refused) = check_failed c.ok.ensures.value c.in_err-next-in-Plus.was in
    rw c.from_residual-in_err-next-in-Plus.ensures (record {
      answer = λ n u e.
          let plus = rw c.in-Plus.is at (c.read_expression.ensures.answer n u e) in
          absurd (checked_refused (at_right plus (rw c.in_ok-n-in-Plus.was at c.visit_bin.ensures.answer)) (told c.check_node.ensures refused));
      bounds = tt;
    })

pub returns-in_ok-next-in-Plus : goal.returns-in_ok-next-in-Plus
returns-in_ok-next-in-Plus t c =
    let past = rw c.in-Plus.is at c.read_expression.ensures.bounds in
    let most = rw c.in_ok-n-in-Plus.was at c.visit_bin.ensures.bounds in
    let passed = check_passed c.ok.ensures.value c.in_ok-next-in-Plus.was in
    record {
      answer = λ n u e.
          let plus = rw c.in-Plus.is at (c.read_expression.ensures.answer n u e) in
          plus_counted plus (rw c.in_ok-n-in-Plus.was at c.visit_bin.ensures.answer) (told c.check_node.ensures passed);
      bounds = omega arith;
    }

pub returns-in-Template : goal.returns-in-Template
returns-in-Template t c = record {
  answer = λ n u e. rw (not_a_chain _ _ _ (c.read_expression.ensures.answer n u e) c.in-Template.is);
  bounds = tt;
}
