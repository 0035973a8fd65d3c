use Rattle.wire.proofs.+groups.Given as goal

-- the groups that are left fall at each call
abbrev pub decreases-groups : goal.decreases-groups
decreases-groups l = l.left
