use Rattle.laws.proofs.Prelude.{sym, ◌∙◌}
use Rattle.report.{specs.Encode.encode_argument, proofs.Buffers.more_cons, proofs.Buffers.wrote_keeps, proofs.Buffers.keeps_then}
use Rattle.arguments.proofs.Arguments.{more_template}
use Rattle.arguments.proofs.argument.put_argument.Goals as goal

pub returns-in-Expr : goal.returns-in-Expr
unfolding encode_argument
returns-in-Expr c = record {
  answer = λ v replacements stands. let (is, none) = rw c.in-Expr.is at stands in (rw is c.put.ensures, sym none);
  left = wrote_keeps _ _ _ c.put.ensures;
}

pub returns-in-String : goal.returns-in-String
unfolding encode_argument
returns-in-String c =
    let text = c.put_lossy_text.ensures in record {
      answer = λ v replacements stands.
          let (is, count) = rw c.in-String.is at stands in
          (rw (is, more_cons, ← c.put-in-String.ensures) text.answer, text.replaced ∙ sym count);
      left = keeps_then (wrote_keeps _ _ _ c.put-in-String.ensures) (wrote_keeps _ _ _ text.answer);
    }

pub returns-in-Template : goal.returns-in-Template
returns-in-Template c =
    let tag = c.put-in-Template.ensures in
    let number = c.put_number.ensures in
    let parts = c.put_parts.ensures in record {
      answer = λ v replacements stands.
          let ((ps, u, read, long, is), none) = rw c.in-Template.is at stands in
          (rw (is, more_template, long, ← tag, ← number) (parts.answer ps u read), sym none);
      left = keeps_then (keeps_then (wrote_keeps _ _ _ tag) (wrote_keeps _ _ _ number)) parts.left;
    }

pub returns-in-Chain : goal.returns-in-Chain
returns-in-Chain c =
    let tag = c.put-in-Chain.ensures in
    let number = c.put_number-in-Chain.ensures in
    let parts = c.put_bin.ensures in record {
      answer = λ v replacements stands.
          let ((n, t, l, read, chained, long, is), none) = rw c.in-Chain.is at stands in
          (rw (is, more_template, long, ← tag, ← number) (parts.answer n t l read chained).0, sym none);
      left = keeps_then (keeps_then (wrote_keeps _ _ _ tag) (wrote_keeps _ _ _ number)) parts.left;
    }
