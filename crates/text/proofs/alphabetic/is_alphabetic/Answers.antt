use Rattle.laws.proofs.Prelude.{refl}
use Rattle.text.specs.{Alphabetic.alphabetic, Ranges.bounds}
use Rattle.text.proofs.{Bounds.ascending}
use Rattle.text.proofs.alphabetic.is_alphabetic.Goals as goal

pub in_table-requires : goal.in_table-requires
unfolding alphabetic
in_table-requires c = ascending (bounds alphabetic) refl

pub returns : goal.returns
unfolding alphabetic
returns c = c.in_table.ensures alphabetic refl
