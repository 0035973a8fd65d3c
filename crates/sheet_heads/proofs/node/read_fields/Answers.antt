use Rattle.sheet_heads.specs.code.Head.{start}
use Rattle.sheet_heads.proofs.Plain.{plain_fields}
use Rattle.sheet_heads.proofs.node.read_fields.Goals as goal

pub returns-in-Name : goal.returns-in-Name
unfolding start
returns-in-Name c = rw c.in-Name.is (plain_fields _ c.read_name.ensures)
