-- Which depositor a turn finds.
use Rattle.std.specs.Prelude.{Some}
use Rattle.laws.proofs.Prelude.{◌≡◌, sym, ◌∙◌, List, ℕ, suc, ◌+◌, ◌-◌, ◌<◌, ◌≤◌, arith, lt-ltb, le-ltb, length}
use Rattle.desk.specs.Block.{count_in, desk_as}
use Rattle.desk.proofs.Rings.{length_queue_of}
use Rattle.desk.specs.Desk.{Desk, queue, looked_at, first_waiting}

-- one look at a depositor, with what the code counts there
module _ (block : List ℕ) (passed count : ℕ) (few : passed < 16) (counted : count ≡ count_in block (looked_at (desk_as block) passed)) where
  abbrev desk : Desk
  desk = desk_as block

  waits : length (queue desk (looked_at desk passed)) ≡ count
  waits = length_queue_of block _ (omega arith) ∙ sym counted

  pub found_here : 0 < count → first_waiting desk passed (16 - passed) ≡ Some (looked_at desk passed)
  unfolding first_waiting
  found_here h = let e : 16 - passed ≡ suc (15 - passed) = omega arith in rw (e, first_waiting, waits, lt-ltb 0 count h)

  pub found_on : count ≤ 0 → first_waiting desk passed (16 - passed) ≡ first_waiting desk (passed + 1) (16 - (passed + 1))
  unfolding first_waiting
  found_on h =
      let e : 16 - passed ≡ suc (15 - passed) = omega arith in
      let f : 16 - (passed + 1) ≡ 15 - passed = omega arith in
      rw (e, f, first_waiting, waits, le-ltb 0 count h)
