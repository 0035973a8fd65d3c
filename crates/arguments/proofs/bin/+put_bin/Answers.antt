use Rattle.laws.proofs.Prelude.{ap, ◌∙◌, ◌-◌, told}
use Rattle.laws.proofs.Decoding.{same_rest}
use Rattle.sheet.specs.Nodes.{node}
use Rattle.sheet_nodes.specs.code.Tallies.{node_tally}
use Rattle.report.proofs.Buffers.{wrote_keeps, keeps_same, keeps_then}
use Rattle.arguments.proofs.Chains.{more_parts, encode_one, only_part, no_parts, checked_refused, string_chain, plus_parts, not_a_chain}
use Rattle.arguments.proofs.bin.+put_bin.Goals as goal

pub returns-in-String : goal.returns-in-String
returns-in-String t c =
    record {
      answer = λ n u l e is.
          let string = rw c.in-String.is at (c.read_expression.ensures.answer n u e) in
          (rw (← (only_part (string_chain string) is), encode_one) c.put_string.ensures, string.past);
      left = wrote_keeps _ _ _ c.put_string.ensures;
    }

pub returns-in-Ok : goal.returns-in-Ok
returns-in-Ok t c =
    record {
      answer = λ n u l e is.
          let a = c.args in
          let plus = rw c.in-Plus.is at (c.read_expression.ensures.answer n u e) in
          let (m, first, whole) = plus_parts plus is in
          let left = c.put_bin-next.ensures.answer plus.left plus.between m plus.first first in
          let second = ap (node a.source.now (a.levels - 1)) left.1 ∙ plus.second in (
            rw (← whole, more_parts, ← left.0, encode_one) (c.put_operand.ensures.answer plus.right u second),
            same_rest node_tally (node a.source.now (a.levels - 1) _) second (told c.check_node.ensures c.in-Ok.is),
          );
      left = keeps_then c.put_bin-next.ensures.left c.put_operand.ensures.left;
    }

pub returns-in-Err : goal.returns-in-Err
returns-in-Err t c =
    record {
      answer = λ n u l e is.
          let a = c.args in
          let plus = rw c.in-Plus.is at (c.read_expression.ensures.answer n u e) in
          let (m, first, whole) = plus_parts plus is in
          let left = c.put_bin-next.ensures.answer plus.left plus.between m plus.first first in
          absurd (checked_refused (ap (node a.source.now (a.levels - 1)) left.1 ∙ plus.second) (told c.check_node.ensures c.in-Err.is));
      left = keeps_then c.put_bin-next.ensures.left c.put_operand.ensures.left;
    }

pub returns-in-Template : goal.returns-in-Template
returns-in-Template t c = record {
  answer = λ n u l e is. absurd (no_parts (not_a_chain _ _ _ (c.read_expression.ensures.answer n u e) c.in-Template.is) is);
  left = keeps_same _;
}
