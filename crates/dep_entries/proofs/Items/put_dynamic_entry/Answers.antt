use Rattle.laws.proofs.Prelude.{rules, arith}
use Rattle.report.specs.Encode.{encode_dependency, encode_dynamic}
use Rattle.report.proofs.Buffers.{more_append, more_cons, wrote_keeps, keeps_then}
use Rattle.dep_entries.proofs.Wrote.{adds_one}
use Rattle.dep_entries.proofs.Items.put_dynamic_entry.Goals as goal

-- `put_dynamic_entry`: the fields of the entry in turn.

pub returns : goal.returns
unfolding encode_dependency encode_dynamic
returns c =
    record {
      answer = λ v k stands.
          let (written, counted) = c.put_argument-replaced.ensures.answer v k (rw c.source-source.ensures.value stands) in
          grind (arith, adds_one, more_append, more_cons, written, counted);
      left = search (rules, keeps_then, wrote_keeps);
    }
