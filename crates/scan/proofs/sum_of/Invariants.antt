use Rattle.laws.proofs.Prelude.{◌≡◌, ◌-◌, length, drop}
use Rattle.scan.specs.Scan.{scan_length, scan_sum}
use Rattle.scan.proofs.sum_of.Given as goal

-- what is counted stands at the end
abbrev pub invariant-loop-counted : goal.invariant-loop-counted
invariant-loop-counted l = (l.ahead ≡ scan_length (drop (length l.body - l.counted) l.body)) × (l.sum ≡ scan_sum (drop (length l.body - l.counted) l.body))
