-- What some bytes end with, and what stands in them.
use Rattle.laws.proofs.Prelude.{refl, sym, List, [], ◌++◌, append_assoc, append-nil, Option, ℕ}
use Rattle.std.specs.Prelude.{None, Some}
use Rattle.laws.specs.{Codec.IfThere, code.Among.EndOf, code.Among.PartOf}

pub end_whole : (s : List ℕ) → EndOf s s
end_whole s = record { front = []; among = refl }

pub end_none : (s : List ℕ) → EndOf [] s
end_none s = record { front = s; among = sym (append-nil s) }

-- what an end ends with, and what is in front of that
pub end_further : {s t u : List ℕ} → EndOf t s → EndOf u t → EndOf u s
end_further e f = record { front = e.front ++ f.front; among = rw (e.among, f.among) (simp append_assoc) }

module _ {s : List ℕ} (x t : List ℕ) (e : EndOf (x ++ t) s) where
  pub end_behind : EndOf t s
  end_behind = record { front = e.front ++ x; among = rw e.among (simp append_assoc) }

  pub part_front : PartOf x s
  part_front = record { before = e.front; behind = t; among = e.among }

pub part_further : {s t x : List ℕ} → EndOf t s → PartOf x t → PartOf x s
part_further e p = record { before = e.front ++ p.before; behind = p.behind; among = rw (e.among, p.among) (simp append_assoc) }

pub ruleset ends = (end_further, end_behind)

-- the same of a part that may be there
pub part_if_further : {s t : List ℕ} → EndOf t s → (o : Option (List ℕ)) → IfThere (λ x. PartOf x t) o → IfThere (λ x. PartOf x s) o
part_if_further e None p = tt
part_if_further e (Some x) p = part_further e p
