use Rattle.laws.proofs.Prelude.{rules}
use Rattle.text.proofs.Words.{same_is}
use Rattle.jsdoc.specs.Reader.{attribute_mode}
use Rattle.jsdoc.proofs.block.attribute_mode.Goals as goal

pub returns : goal.returns
unfolding attribute_mode
returns c = rw same_is (search rules)
