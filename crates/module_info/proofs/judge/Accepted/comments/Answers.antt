use Rattle.module_info.proofs.Accepted.{lent}
use Rattle.module_info.proofs.judge.Accepted.comments.Goals as goal

pub new-requires : goal.new-requires
new-requires c = lent c.args.self.now.accepted.1 c.args.self.now.parted _ c.args.self.now.indexed
