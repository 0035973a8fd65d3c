-- What a call of the order function promises.
use Rattle.std.specs.Prelude.{◌≡◌, ◌↔◌, List, [], ℕ, ◌+◌, ◌*◌, ◌%◌, Option, Some, None, Result, Ok, Err}
use Rattle.laws.specs.Decoded.{ok}
use Rattle.report.specs.Answer.{zeros}
use Rattle.wire.specs.Refusals.{number_of}
use Rattle.delivery.specs.declared.{NotInOrder.NotInOrder, judge.RefusedModule.RefusedModule}
use Rattle.delivery.specs.Delivery.{Module, DeliveryOf, decode_delivery}
use Rattle.delivery.specs.Order.{Answer, in_order, not_in_order, refused, order_of}
use Rattle.delivery.specs.Right.{OrderRight}

-- an answer without the specifier: in order; not in order, with the module and the entry; or refused, with the number and the module
pub data Order : Type 0 where
  all : Order
  late : ℕ → ℕ → Order
  no : ℕ → ℕ → Order

abbrev pub order_as : Answer → Order
order_as in_order = all
order_as (not_in_order i j x) = late i j
order_as (refused r i) = no r i

-- what the code answers: the first entry that is late, or none; or a refusal
abbrev pub LoadOrder : Type 0
LoadOrder = Result (Option NotInOrder) RefusedModule

-- and what it stands for
abbrev pub load_order_as : LoadOrder → Order
load_order_as (Ok None) = all
load_order_as (Ok (Some l)) = late l.module l.entry
load_order_as (Err r) = no (number_of r.refusal) r.module

-- the bytes s of a delivery, the size of the work buffer, the answer, and what the buffer holds then
pub record OrderPromised (s : List ℕ) (size : ℕ) (answer : LoadOrder) (work : List ℕ) : Type 0 where
  -- just the encodings of deliveries within the limits are decoded
  pub decodes : (ms : List Module) → (decode_delivery s ≡ ok ms []) ↔ DeliveryOf s ms
  -- the answer is the definition's, and that one is right
  pub defined : load_order_as answer ≡ order_as (order_of size s)
  pub right : OrderRight size s (order_of size s)
  -- every byte of the work buffer is zero
  pub cleared : work ≡ zeros size

-- the answer in one number, for C: 0 in order, a refusal's number, or 255 for not in order; + 256 × module + 65,536 × entry. A module takes eight bits
-- and an entry 48, more than a delivery has of either
abbrev pub packed : LoadOrder → ℕ
packed (Ok None) = 0
packed (Ok (Some l)) = 255 + 256 * (l.module % 256) + 65536 * (l.entry % 281474976710656)
packed (Err r) = number_of r.refusal + 256 * (r.module % 256)
