use Rattle.report_reader.proofs.FromBytes.{expr_argument, string_argument, template_argument}
use Rattle.report_reader.proofs.dependencies.skip_argument.Goals as goal

pub returns-in-Expr-clause-answer : goal.returns-in-Expr-clause-answer
returns-in-Expr-clause-answer c = λ x v t e. (expr_argument c.read_number-kind.ensures.read c.in-Expr.ensures x t e).1

pub returns-in-String-clause-answer : goal.returns-in-String-clause-answer
returns-in-String-clause-answer c = λ x v t e.
    let (y, p, e) = string_argument c.read_number-kind.ensures.read c.in-String.ensures x t e in
    c.skip_in.ensures.answer y (rw p at v) t e

pub returns-in-Template-clause-answer : goal.returns-in-Template-clause-answer
returns-in-Template-clause-answer c = λ x v t e.
    let (l, p, e) = template_argument c.read_number-kind.ensures.read c.in-Template.ensures x t e in
    c.skip_list_in.ensures.answer l (rw p at v) t e
