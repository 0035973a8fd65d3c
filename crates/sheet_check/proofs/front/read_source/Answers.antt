use Rattle.std.proofs.Common.{rules}
use Rattle.wire.specs.Fields.{numbered, below}
use Rattle.sheet_check.specs.code.Pieces.{source_fields}
use Rattle.sheet_check.proofs.Source.{source_stands}
use Rattle.sheet_check.proofs.front.read_source.Goals as goal

pub returns : goal.returns
unfolding source_fields numbered below
returns c = record {
  answer = search rules;
  bounds = search (rules, source_stands);
}
