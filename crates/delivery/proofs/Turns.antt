-- The definitions' passes, one module or entry at a time.
use Rattle.laws.proofs.Prelude.{◌≡◌, List, [], ◌∷◌, ◌++◌, Option, ℕ, ◌+◌, ne_eqb}
use Rattle.report.specs.ModuleInfo.{DependencyDescriptor}
use Rattle.delivery.specs.{Delivery.Module}
use Rattle.delivery.specs.Order.{Answer, refused, entries_of, number_of, late_in, late_at, entries_in_turn, modules_in_turn, sheets_in_turn}

module _ {m : Module} {ms rest : List Module} (is : ms ≡ m ∷ rest) where
  -- the first sheet is refused, or it is not
  module _ (size i : ℕ) (behind : Answer) where
    pub refused_here : {r : ℕ} → number_of size m.sheet ≡ r → (r ≡ 0 → ⊥) → sheets_in_turn size i ms behind ≡ refused r i
    unfolding sheets_in_turn
    refused_here {r} h some = rw (is, h, ne_eqb r 0 some)

    pub reported_here : number_of size m.sheet ≡ 0 → sheets_in_turn size i ms behind ≡ sheets_in_turn size (i + 1) rest behind
    unfolding sheets_in_turn
    reported_here h = rw (is, h)

  -- the entries of the first module
  pub module_here : (earlier : List (List ℕ)) (i : ℕ)
      → modules_in_turn earlier i ms ≡ entries_in_turn earlier i 0 (entries_of m.sheet) (modules_in_turn (earlier ++ (m.name ∷ [])) (i + 1) rest)
  unfolding modules_in_turn
  module_here earlier i = rw is

module _ {d : DependencyDescriptor} {ds rest : List DependencyDescriptor} (is : ds ≡ d ∷ rest) (earlier : List (List ℕ)) (i j : ℕ) (behind : Answer) where
  -- the first entry is late, or it is not
  pub entry_here : {o : Option (List ℕ)} → o ≡ late_in earlier d →
      entries_in_turn earlier i j ds behind ≡ late_at i j o (entries_in_turn earlier i (j + 1) rest behind)
  unfolding entries_in_turn
  entry_here h = rw (is, h)
