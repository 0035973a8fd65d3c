-- From the mask of one load to the first byte that passes a test.
use Rattle.laws.proofs.Prelude.{◌≡◌, ◌∙◌, ap, Bool, cond, eqb, List, map, ℕ, ◌+◌, ◌≤◌, length}
use Rattle.std.proofs.lemmas.Simd.{length-chunk, first_set_mask_l, run_in_chunk_le, run_in_chunk_fails, run_in_chunk_stops}
use lib.Count.{count_trailing_zeros}
use lib.Lanes.{chunk, mask_l}
use Rattle.text.specs.code.Places.{Before}

pub before_first : (p : ℕ → Bool) (s : List ℕ) (at n m r : ℕ) → at + n ≤ length s → n ≤ 64 → m ≡ mask_l (map p (chunk at n s))
    → r ≡ cond (eqb m 0) n (count_trailing_zeros 64 m) → Before p s at n r
before_first p s at n m r room few e f =
    let counted = f ∙ ap (λ k. cond (eqb k 0) n (count_trailing_zeros 64 k)) e ∙ first_set_mask_l p (chunk at n s) n (length-chunk at n s room) few in
    record {
      most = run_in_chunk_le p s at n r 0 room counted;
      fails = run_in_chunk_fails p s at n r 0 room counted;
      stops = run_in_chunk_stops p s at n r 0 room counted;
    }
