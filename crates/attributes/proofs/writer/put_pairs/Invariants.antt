use Rattle.laws.proofs.Prelude.{take, map, flat_map}
use Rattle.report.{specs.Encode.encode_key_value, specs.Buffer.Wrote}
use Rattle.attributes.specs.code.Rows.{pair_as}
use Rattle.attributes.proofs.writer.put_pairs.Given as goal

abbrev pub invariant-loop-pair : goal.invariant-loop-pair
invariant-loop-pair l = Wrote l.fn.w l.w (flat_map encode_key_value (map pair_as (take l.pair-index l.rows)))
