use Rattle.module_info.proofs.Accepted.{has_parts}
use Rattle.module_info.proofs.judge.Accepted.new.Goals as goal

pub invariant_of-result : goal.invariant_of-result
invariant_of-result c =
    let a = c.requires.accepts in
    record { accepted = (a.sheet, a.accepted); parted = has_parts a; reaches = a.reaches; indexed = c.requires.indexed }
