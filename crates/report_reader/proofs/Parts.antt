-- What is split off, and what is left; or what stands for them.
use Rattle.std.specs.Prelude.{Some, None, MatchOption, unwrap_or}
use Rattle.std.specs.{Borrow.Bor, List.IsSplitAt}
use Rattle.std.proofs.lemmas.List.{take-append-drop}
use Rattle.laws.proofs.Prelude.{◌≡◌, List, ◌++◌, Option, ℕ, ◌<◌, length}
use Rattle.laws.specs.code.Among.{EndOf}
use Rattle.laws.proofs.Among.{end_whole}

pub split_or : (s : List ℕ) (n : ℕ) (r : Option (Bor (List ℕ) × Bor (List ℕ))) (d : Bor (List ℕ) × Bor (List ℕ))
    → MatchOption r (length s < n) (λ p. IsSplitAt s n p.0.now p.1.now)
    → EndOf (d.0.now ++ d.1.now) s
    → {v : Bor (List ℕ) × Bor (List ℕ)} → v ≡ unwrap_or r d → EndOf (v.0.now ++ v.1.now) s
split_or s n (Some p) d h others is = rw (is, h.1, h.2, take-append-drop n s) (end_whole s)
split_or s n None d h others is = rw is others
