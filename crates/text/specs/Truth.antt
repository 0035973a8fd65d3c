-- Truth values that count.
use Rattle.std.specs.Prelude.{Bool, cond, ℕ}

-- 1 for true, 0 for false
abbrev pub one : Bool → ℕ
one b = cond b 1 0
