use Rattle.laws.proofs.Prelude.{refl}
use Rattle.text.specs.{WhiteSpace.white_space, Ranges.bounds}
use Rattle.text.proofs.{Bounds.ascending}
use Rattle.text.proofs.white_space.is_white_space.Goals as goal

pub in_table-requires : goal.in_table-requires
in_table-requires c = ascending (bounds white_space) refl

pub returns : goal.returns
returns c = c.in_table.ensures white_space refl
