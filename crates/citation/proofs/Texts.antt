-- A text byte by byte, as it is written.
use Rattle.laws.proofs.Prelude.{◌≡◌, [], ◌++◌, List, flat_map, ℕ, ◌+◌, ◌≤◌, ◌<◌, add-one, length, get_or, drop, drop_of_length-le, drop-cons}
use Rattle.citation.specs.Citation.{escaped}

pub text_on : (s : List ℕ) (i : ℕ) → i < length s → flat_map escaped (drop i s) ≡ escaped (get_or s i 0) ++ flat_map escaped (drop (i + 1) s)
unfolding flat_map
text_on s i l = rw (drop-cons s i 0 l, add-one)

pub text_end : (s : List ℕ) (i : ℕ) → length s ≤ i → flat_map escaped (drop i s) ≡ []
unfolding flat_map
text_end s i l = rw (drop_of_length-le s l)
