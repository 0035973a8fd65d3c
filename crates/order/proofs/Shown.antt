-- How long the line for an answer is.
use Rattle.laws.proofs.Prelude.{◌≡◌, refl, List, ℕ, ◌+◌, ◌*◌, ◌≤◌, arith, length, length-append}
use Rattle.citation.proofs.{Lengths.digits_most, Lengths.text_short}
use Rattle.delivery.{specs.Order.Answer, specs.Order.in_order, specs.Order.not_in_order, specs.Order.refused, specs.Order.order_of, proofs.Short.late_short}
use Rattle.order.specs.Printed.{printed_answer}

-- a line has at most four bytes for each of the work buffer's, and 64 besides
pub order_short : (size : ℕ) (s : List ℕ) → length (printed_answer (order_of size s)) ≤ 4 * size + 64
unfolding printed_answer
order_short size s = by (order_of size s) refl
  where
    by : (a : Answer) → order_of size s ≡ a → length (printed_answer a) ≤ 4 * size + 64
    by in_order e = omega arith
    by (not_in_order i j x) e = simp length-append (omega (arith, digits_most 20 i, digits_most 20 j, text_short x, late_short size s e))
    by (refused r i) e = simp length-append (omega (arith, digits_most 20 r, digits_most 20 i))
