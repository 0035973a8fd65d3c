use Rattle.laws.proofs.Prelude.{ap, ◌∙◌, arith, told}
use Rattle.laws.proofs.Decoding.{same_rest}
use Rattle.sheet.specs.Nodes.{node, arguments}
use Rattle.sheet_heads.proofs.FirstArgument.{no_arguments_lem}
use Rattle.sheet.specs.Shape.{shape}
use Rattle.sheet_nodes.specs.code.Tallies.{node_tally}
use Rattle.arguments.specs.Argument.{argument_of, single_text, replaced_in}
use Rattle.attributes.specs.Attributes.{dynamic_attributes}
use Rattle.dep_entries.specs.Entries.{call_entry}
use Rattle.dep_entries.proofs.Items.put_argument_entry.Goals as goal

-- `put_argument_entry`: the entry with the argument and the attributes that were read.

pub returns-then-more-eq0 : goal.returns-then-more-eq0
unfolding call_entry dynamic_attributes
returns-then-more-eq0 c =
    let a = c.args in
    let source = a.comments.now.source in
    record {
      answer = λ dots n xs t u is are.
          rw (no_arguments_lem (node source a.levels) source a.more t (omega (arith, c.if-more-eq0.true)) are)
          (c.put_dynamic_entry.ensures.answer (argument_of n) (replaced_in (single_text (shape n)))
          (rw c.source-source.ensures.value at c.parse_argument.ensures.value n t is));
      left = c.put_dynamic_entry.ensures.left;
    }

pub returns-in-Ok : goal.returns-in-Ok
unfolding call_entry
returns-in-Ok c =
    let a = c.args in
    let source = a.comments.now.source in
    record {
      answer = λ dots n xs t u is are.
          c.put_options_entry.ensures.answer (argument_of n) (replaced_in (single_text (shape n))) xs u
          (rw c.source-source.ensures.value at c.parse_argument.ensures.value n t is)
          (ap (arguments (node source a.levels) source a.more)
          (same_rest node_tally (node source a.levels a.s.now) is (told (rw c.source-source.ensures.value at c.check_node.ensures) c.in-Ok.is)) ∙ are);
      left = c.put_options_entry.ensures.left;
    }
