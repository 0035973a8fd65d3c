use Rattle.laws.proofs.Prelude.{sym, ap, ◌∙◌}
use Rattle.arguments.specs.Argument.{chain, of_chain, replaced_in}
use Rattle.arguments.proofs.{Chains.uncounted, Chains.has_count}
use Rattle.arguments.proofs.Arguments.{argument_further, string_argument, template_argument, plus_argument}
use Rattle.arguments.proofs.argument.parse_argument.Goals as goal

pub returns-in-String-clause-value : goal.returns-in-String-clause-value
returns-in-String-clause-value c n t e = string_argument (rw c.in-String.is at (c.read_expression.ensures.answer n t e))

pub returns-in-Template-clause-value : goal.returns-in-Template-clause-value
returns-in-Template-clause-value c n t e =
    let a = c.args in
    let template = rw c.in-Template.is at (c.read_expression.ensures.answer n t e) in
    rw ((template_argument template).0, (template_argument template).1)
    (c.parse_template.ensures.value a.source.now a.levels template.pieces template.behind template.read)

pub returns-in-Some-clause-value : goal.returns-in-Some-clause-value
returns-in-Some-clause-value c n t e =
    let plus = rw c.in-Plus.is at (c.read_expression.ensures.answer n t e) in
    let (l, is, total, past) = has_count (chain n) t (rw c.in-Some.is at (c.visit_bin.ensures.answer n t e)) in
    ((n, t, l, e, is, sym total, (plus_argument plus).0 ∙ ap of_chain is), ap replaced_in (plus_argument plus).1)

pub returns-in-None-clause-value : goal.returns-in-None-clause-value
returns-in-None-clause-value c n t e =
    let plus = rw c.in-Plus.is at (c.read_expression.ensures.answer n t e) in (
      (plus_argument plus).0 ∙ ap of_chain (uncounted (chain n) t (rw c.in-None.is at (c.visit_bin.ensures.answer n t e))),
      ap replaced_in (plus_argument plus).1,
    )

pub returns-in-Other-clause-value : goal.returns-in-Other-clause-value
returns-in-Other-clause-value c n t e =
    let unknown = rw c.in-Other.is at (c.read_expression.ensures.answer n t e) in
    (unknown.whole, ap replaced_in unknown.single)

pub returns-in-Template-clause-parts : goal.returns-in-Template-clause-parts
returns-in-Template-clause-parts c =
    let within = rw c.in-Template.is at c.read_expression.ensures.bounds in
    argument_further within.1 _ c.parse_template.ensures.parts
