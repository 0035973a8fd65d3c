-- What a loop over the pieces of a template keeps: with those that are to come, is one uncooked?
use Rattle.std.specs.Borrow.{Bor}
use Rattle.std.specs.Prelude.{Option, Some, None, is_some}
use Rattle.laws.proofs.Prelude.{◌≡◌, refl, ◌∙◌, ap, Bool, true, false, true≢false, false≢true, not, ◌||◌, List, [], ℕ, ◌+◌, ◌-◌, ◌≤◌, ◌<◌, sub-zero, arith}
use mathlib.Core.Bool.{or-false}
use Rattle.laws.specs.Decoded.{ok, no, on_ok, Decoder}
use Rattle.sheet.specs.{Tree.Pieces, Nodes.many, Nodes.piece, Shape.any_uncooked}
use Rattle.sheet_heads.specs.code.Views.{piece_of}
use Rattle.sheet_heads.proofs.Many.{found, found_step, found_stop, found_end}

abbrev or_uncooked : Bool → Pieces → Bool
or_uncooked b ps = b || any_uncooked ps

-- of so many pieces so many are done, and b says whether one of these is uncooked
unfoldable pub from_pieces : Bool → ℕ → ℕ → Decoder Bool
from_pieces b count done = found or_uncooked [] piece b (count - done)

-- with one more piece in front
one_more : (ps : Pieces) (x : Option (Bor (List ℕ))) (b n : Bool) → is_some x ≡ not n → or_uncooked b (piece_of x ps) ≡ or_uncooked (b || n) ps
one_more ps None true n e = refl
one_more ps None false true e = refl
one_more ps None false false e = absurd (false≢true e)
one_more ps (Some y) true n e = refl
one_more ps (Some y) false true e = absurd (true≢false e)
one_more ps (Some y) false false e = refl

pub pieces_first : (count : ℕ) (u : List ℕ) → on_ok any_uncooked (many [] piece count u) ≡ from_pieces false count 0 u
unfolding from_pieces
pieces_first count u = rw sub-zero

module _ (b : Bool) (count done : ℕ) (u : List ℕ) where
  pub pieces_step : (x : Option (Bor (List ℕ))) (n : Bool) {v : List ℕ} → done < count → piece u ≡ ok (piece_of x) v → is_some x ≡ not n
      → from_pieces b count done u ≡ from_pieces (b || n) count (done + 1) v
  unfolding from_pieces
  pieces_step x n h is e =
      let down : count - (done + 1) ≡ count - done - 1 = omega arith in
      rw down (found_step or_uncooked [] piece b (b || n) (count - done) u (omega arith) is (λ ps. one_more ps x b n e))

  pub pieces_stop : {r : ℕ} → done < count → piece u ≡ no r → from_pieces b count done u ≡ no r
  unfolding from_pieces
  pieces_stop h is = found_stop or_uncooked [] piece b (count - done) u (omega arith) is

  pub pieces_end : count ≤ done → from_pieces b count done u ≡ ok b u
  unfolding from_pieces
  pieces_end h = found_end or_uncooked [] piece b (count - done) u (omega arith) ∙ ap (λ b. ok b u) (or-false b)

pub ruleset pieces_looped = (pieces_first, pieces_step, pieces_stop, pieces_end)
