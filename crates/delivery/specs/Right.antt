-- What holds of the answer to a delivery, without the decoder and without the passes over it.
use Rattle.std.specs.Prelude.{◌≡◌, ◌↔◌, ℕ, length}
use mathlib.Core.List.{List, ◌∷◌, ◌++◌, map, Memᴰ}
use Rattle.laws.specs.Codec.{All}
use Rattle.laws.specs.Ordered.{Ordered}
use Rattle.report.specs.ModuleInfo.{DependencyDescriptor}
use Rattle.wire.specs.Refusals as refusals
use Rattle.delivery.specs.Delivery.{Module, DeliveryOf}
use Rattle.delivery.specs.Asks.{Asks}
use Rattle.delivery.specs.Order.{Answer, in_order, not_in_order, refused, entries_of, number_of}

-- no name occurs twice: each differs from all that follow it
abbrev pub NamesDiffer : List Module → Type 0
NamesDiffer = Ordered (λ m n. m.name ≡ n.name → ⊥)

-- the sheet gets its report in a work buffer of so many bytes
abbrev pub Reported : ℕ → Module → Type 0
Reported size m = number_of size m.sheet ≡ 0

abbrev pub names_of : List Module → List (List ℕ)
names_of = map (λ m. m.name)

-- what an entry asks for, if it is judged, is one of the names
abbrev pub EntryInOrder : List (List ℕ) → DependencyDescriptor → Type 0
EntryInOrder earlier d = (x : List ℕ) → Asks d x → Memᴰ x earlier

-- so for each entry of a module
abbrev pub ModuleInOrder : List (List ℕ) → Module → Type 0
ModuleInOrder earlier m = All (EntryInOrder earlier) (entries_of m.sheet)

-- and for each module, with the names of those before it
abbrev pub InOrder : List Module → Type 0
InOrder ms = (before : List Module) (m : Module) (behind : List Module) → ms ≡ before ++ m ∷ behind → ModuleInOrder (names_of before) m

-- module i is the first whose sheet is refused, with the number r
pub record FirstRefused (size : ℕ) (ms : List Module) (r i : ℕ) : Type 0 where
  pub before : List Module
  pub middle : Module
  pub behind : List Module
  pub among : ms ≡ before ++ middle ∷ behind
  pub index : length before ≡ i
  pub reported : All (Reported size) before
  pub number : number_of size middle.sheet ≡ r
  pub refusal : r ≡ 0 → ⊥

-- entry j of module i asks for x, which is no earlier name; every pair before it, in delivery order, is in order
pub record FirstLate (ms : List Module) (i j : ℕ) (x : List ℕ) : Type 0 where
  pub before : List Module
  pub middle : Module
  pub behind : List Module
  pub among : ms ≡ before ++ middle ∷ behind
  pub index : length before ≡ i
  pub modules : InOrder before
  pub first : List DependencyDescriptor
  pub entry : DependencyDescriptor
  pub rest : List DependencyDescriptor
  pub entries : entries_of middle.sheet ≡ first ++ entry ∷ rest
  pub place : length first ≡ j
  pub passed : All (EntryInOrder (names_of before)) first
  pub asks : Asks entry x
  pub late : Memᴰ x (names_of before) → ⊥

-- the answer to modules whose names differ
pub record JudgedRight (size : ℕ) (ms : List Module) (answer : Answer) : Type 0 where
  -- a refusal's number and the index of the first refused sheet, whatever the order is
  pub refusals : (r i : ℕ) → (answer ≡ refused r i) ↔ FirstRefused size ms r i
  -- in order exactly when each sheet gets its report and each judged entry of each module is among the earlier names
  pub in_order_means : (answer ≡ in_order) ↔ (All (Reported size) ms × InOrder ms)
  -- otherwise the first pair that is not
  pub not_in_order_means : (i j : ℕ) (x : List ℕ) → (answer ≡ not_in_order i j x) ↔ (All (Reported size) ms × FirstLate ms i j x)

-- the answer to the bytes s with a work buffer of so many bytes
pub record OrderRight (size : ℕ) (s : List ℕ) (answer : Answer) : Type 0 where
  -- 11 exactly when s is no delivery, and then at index 0
  pub eleven : (answer ≡ refused refusals.delivery 0) ↔ ((ms : List Module) → DeliveryOf s ms → ⊥)
  -- 12 exactly when it is one in which a name occurs twice
  pub twelve : (answer ≡ refused refusals.name_twice 0) ↔ ((ms : List Module) × DeliveryOf s ms × (NamesDiffer ms → ⊥))
  -- of every other delivery its sheets are judged, and then its order
  pub judged : (ms : List Module) → DeliveryOf s ms → NamesDiffer ms → JudgedRight size ms answer
