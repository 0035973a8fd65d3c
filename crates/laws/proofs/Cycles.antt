-- What a function that calls itself, or a member of a cycle of calls, is given: its arguments with its measure at t, or below t.
use Prim.Native.Nat.{ℕ, ◌<◌}
use borrow.Fn.Kinds.{In, ParamKind}
use borrow.Fn.PlainCycle.{Measures, and, falls, is}
use mathlib.Core.List.{List}

module _ (n : ℕ) (ps : List (ParamKind n)) (μ : Measures n ps ℕ) (pre : In n ps) (t : ℕ) where
  -- what it asks holds, and its measure is t
  abbrev pub At : In n ps
  At = and n ps (is n ps μ t) pre

  -- the same, and its measure is below t: so for those that it calls
  abbrev pub Below : In n ps
  Below = and n ps (falls n ps ◌<◌ μ t) pre
