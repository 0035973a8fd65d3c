use Rattle.laws.proofs.Prelude.{sym, ◌∙◌, append_assoc}
use Rattle.wire.specs.Text.{encode_text}
use Rattle.report.specs.Encode.{encode_range, encode_specifier, encode_argument}
use Rattle.report_reader.proofs.FromBytes.{expr_argument, string_argument, template_argument}
use Rattle.citation.proofs.cite.Citing.cite_argument.Goals as goal

pub returns-in-Expr-clause-answer : goal.returns-in-Expr-clause-answer
returns-in-Expr-clause-answer c = λ x v t e.
    let (p, e) = expr_argument c.read_number-kind.ensures.read c.in-Expr.ensures x.0 _
    (e ∙ append_assoc (encode_argument x.0) (encode_range x.1) t) in
    rw p (c.cite_range.ensures.answer x.1 v.1 t e)

pub returns-in-String-clause-answer : goal.returns-in-String-clause-answer
unfolding encode_specifier
returns-in-String-clause-answer c = λ x v t e.
    let (y, p, e) = string_argument c.read_number-kind.ensures.read c.in-String.ensures x.0 _
    (e ∙ append_assoc (encode_argument x.0) (encode_range x.1) t) in
    rw p (c.cite_specifier.ensures.answer (record { text = y; range = x.1 }) (record { text = rw p at v.0; range = v.1 }) t
    (e ∙ sym (append_assoc (encode_text y) (encode_range x.1) t)))

pub returns-in-Template-clause-answer : goal.returns-in-Template-clause-answer
returns-in-Template-clause-answer c = λ x v t e.
    let (l, p, e) = template_argument c.read_number-kind.ensures.read c.in-Template.ensures x.0 _
    (e ∙ append_assoc (encode_argument x.0) (encode_range x.1) t) in
    rw p (c.cite_range-in-Template.ensures.answer x.1 v.1 t (c.skip_list_in.ensures.answer l (rw p at v.0) _ e))
