-- The passes over modules and entries: what they pass over, and where they stop.
use Rattle.laws.proofs.Prelude.{◌≡◌, refl, sym, ap, ◌∙◌, List, [], ◌∷◌, ◌++◌, append_assoc, append-nil, Memᴰ, Bool, true, false, true≢false, ℕ, ◌+◌}
use Rattle.laws.proofs.Prelude.{add-zero, zero-add, arith, eqb, length, eq-eqb, eqb-true}
use Rattle.laws.specs.Codec.{All}
use Rattle.report.specs.ModuleInfo.{DependencyDescriptor}
use Rattle.delivery.specs.{Delivery.Module, Asks.Asks}
use Rattle.delivery.specs.Order.{Answer, in_order, not_in_order, refused, entries_of, number_of, entries_in_turn, modules_in_turn, sheets_in_turn}
use Rattle.delivery.specs.Right.{Reported, names_of, EntryInOrder, ModuleInOrder, InOrder, FirstRefused, FirstLate}
use Rattle.delivery.proofs.Judging.{LateOr, fine, late, late_or, in_time, too_late}
use Rattle.delivery.proofs.Turns.{refused_here, reported_here, module_here, entry_here}

-- entries in order are passed over
module _ (earlier : List (List ℕ)) (i : ℕ) (behind : Answer) where
  pub pass_entries : (first rest : List DependencyDescriptor) (j : ℕ) → All (EntryInOrder earlier) first
      → entries_in_turn earlier i j (first ++ rest) behind ≡ entries_in_turn earlier i (j + length first) rest behind
  pass_entries [] rest j v = rw add-zero
  pass_entries (d ∷ first) rest j v =
      let n : j + 1 + length first ≡ j + length (d ∷ first) = omega arith in
      entry_here {d = d} {rest = first ++ rest} refl earlier i j behind (sym (in_time d v.0))
      ∙ pass_entries first rest (j + 1) v.1
      ∙ ap (λ n. entries_in_turn earlier i n rest behind) n

  pub all_entries : (ds : List DependencyDescriptor) (j : ℕ) → All (EntryInOrder earlier) ds → entries_in_turn earlier i j ds behind ≡ behind
  unfolding entries_in_turn
  all_entries ds j v = rw append-nil at (pass_entries ds [] j v)

-- the first entry that is late, if there is one
data EntriesOr (earlier : List (List ℕ)) (ds : List DependencyDescriptor) : Type 0 where
  all : All (EntryInOrder earlier) ds → EntriesOr earlier ds
  first : (before : List DependencyDescriptor) (d : DependencyDescriptor) (rest : List DependencyDescriptor) (x : List ℕ) → ds ≡ before ++ d ∷ rest
      → All (EntryInOrder earlier) before → Asks d x → (Memᴰ x earlier → ⊥) → EntriesOr earlier ds

entries_or : (earlier : List (List ℕ)) (ds : List DependencyDescriptor) → EntriesOr earlier ds
entries_or earlier [] = all tt
entries_or earlier (d ∷ ds) = by (late_or earlier d) (entries_or earlier ds)
  where
    by : LateOr earlier d → EntriesOr earlier ds → EntriesOr earlier (d ∷ ds)
    by (late x e a l) r = first [] d ds x refl tt a l
    by (fine e o) (all v) = all (o, v)
    by (fine e o) (first before f rest x is v a l) = first (d ∷ before) f rest x (ap (d ∷◌) is) (o, v) a l

-- modules in order, behind names that stood before them all
abbrev InOrderAfter : List (List ℕ) → List Module → Type 0
InOrderAfter earlier ms = (before : List Module) (m : Module) (behind : List Module) → ms ≡ before ++ m ∷ behind → ModuleInOrder (earlier ++ names_of before) m

no_modules : (earlier : List (List ℕ)) (before : List Module) (m : Module) (behind : List Module) → [] ≡ before ++ m ∷ behind →
    ModuleInOrder (earlier ++ names_of before) m
no_modules earlier [] m behind is = let z : ◌≡◌ {A = ℕ} 0 1 = cc in absurd (omega arith)
no_modules earlier (b ∷ before) m behind is = let z : ◌≡◌ {A = ℕ} 0 1 = cc in absurd (omega arith)

module _ (earlier : List (List ℕ)) (m : Module) (ms : List Module) where
  first_in_order : InOrderAfter earlier (m ∷ ms) → ModuleInOrder earlier m
  first_in_order h = rw append-nil at (h [] m ms refl)

  rest_in_order : InOrderAfter earlier (m ∷ ms) → InOrderAfter (earlier ++ (m.name ∷ [])) ms
  rest_in_order h before n behind is = rw (append_assoc earlier (m.name ∷ []) (names_of before)) (h (m ∷ before) n behind (ap (m ∷◌) is))

  one_before : ModuleInOrder earlier m → InOrderAfter (earlier ++ (m.name ∷ [])) ms
      → (before : List Module) (n : Module) (behind : List Module) → m ∷ ms ≡ before ++ n ∷ behind → ModuleInOrder (earlier ++ names_of before) n
  one_before o h [] n behind is = let same : m ≡ n = cc in rw (append-nil, ← same) o
  one_before o h (b ∷ before) n behind is =
      let same : m ≡ b = cc in
      let rest : ms ≡ before ++ n ∷ behind = cc in
      rw (← same) (rw (append_assoc earlier (m.name ∷ []) (names_of before)) at (h before n behind rest))

-- modules in order are passed over
pub pass_modules : (earlier : List (List ℕ)) (i : ℕ) (before rest : List Module) → InOrderAfter earlier before
    → modules_in_turn earlier i (before ++ rest) ≡ modules_in_turn (earlier ++ names_of before) (i + length before) rest
pass_modules earlier i [] rest h = rw (append-nil, add-zero)
pass_modules earlier i (m ∷ before) rest h =
    let n : i + 1 + length before ≡ i + length (m ∷ before) = omega arith in
    module_here {m = m} {rest = before ++ rest} refl earlier i
    ∙ all_entries earlier i _ (entries_of m.sheet) 0 (first_in_order earlier m before h)
    ∙ pass_modules (earlier ++ (m.name ∷ [])) (i + 1) before rest (rest_in_order earlier m before h)
    ∙ rw (append_assoc earlier (m.name ∷ []) (names_of before), n)

pub all_modules : (ms : List Module) → InOrder ms → modules_in_turn [] 0 ms ≡ in_order
unfolding modules_in_turn
all_modules ms h = rw append-nil at (pass_modules [] 0 ms [] h)

-- and the first entry that is late is answered
pub late_answered : {ms : List Module} {i j : ℕ} {x : List ℕ} → FirstLate ms i j x → modules_in_turn [] 0 ms ≡ not_in_order i j x
late_answered {ms} {i} {j} {x} f =
    let names = names_of f.before in
    let behind = modules_in_turn (names ++ (f.middle.name ∷ [])) (i + 1) f.behind in
    let to_module : modules_in_turn [] 0 ms ≡ modules_in_turn names i (f.middle ∷ f.behind) =
    ap (modules_in_turn [] 0) f.among ∙ pass_modules [] 0 f.before (f.middle ∷ f.behind) f.modules ∙ rw (zero-add, f.index) in
    let to_entries : modules_in_turn names i (f.middle ∷ f.behind) ≡ entries_in_turn names i 0 (f.first ++ f.entry ∷ f.rest) behind =
    module_here {m = f.middle} {rest = f.behind} refl names i ∙ ap (λ ds. entries_in_turn names i 0 ds behind) f.entries in
    let to_entry : entries_in_turn names i 0 (f.first ++ f.entry ∷ f.rest) behind ≡ entries_in_turn names i j (f.entry ∷ f.rest) behind =
    pass_entries names i behind f.first (f.entry ∷ f.rest) 0 f.passed ∙ rw (zero-add, f.place) in
    to_module ∙ to_entries ∙ to_entry ∙ entry_here {d = f.entry} {rest = f.rest} refl names i j behind (sym (too_late f.asks f.late))

-- the first module with an entry that is late, if there is one
pub data ModulesOr (earlier : List (List ℕ)) (ms : List Module) : Type 0 where
  each : InOrderAfter earlier ms → ModulesOr earlier ms
  found : (before : List Module) (middle : Module) (behind : List Module) → ms ≡ before ++ middle ∷ behind → InOrderAfter earlier before
      → (passed : List DependencyDescriptor) (d : DependencyDescriptor) (rest : List DependencyDescriptor) (x : List ℕ)
      → entries_of middle.sheet ≡ passed ++ d ∷ rest → All (EntryInOrder (earlier ++ names_of before)) passed → Asks d x →
      (Memᴰ x (earlier ++ names_of before) → ⊥)
      → ModulesOr earlier ms

modules_or : (earlier : List (List ℕ)) (ms : List Module) → ModulesOr earlier ms
modules_or earlier [] = each (no_modules earlier)
modules_or earlier (m ∷ ms) = by (entries_or earlier (entries_of m.sheet)) (modules_or (earlier ++ (m.name ∷ [])) ms)
  where
    by : EntriesOr earlier (entries_of m.sheet) → ModulesOr (earlier ++ (m.name ∷ [])) ms → ModulesOr earlier (m ∷ ms)
    by (first passed d rest x is v a l) r = found [] m ms refl (no_modules earlier) passed d rest x is (rw append-nil v) a (rw append-nil l)
    by (all o) (each h) = each (one_before earlier m ms o h)
    by (all o) (found before middle behind is h passed d rest x entries v a l) =
        let names = append_assoc earlier (m.name ∷ []) (names_of before) in
        found (m ∷ before) middle behind (ap (m ∷◌) is) (one_before earlier m before o h) passed d rest x entries (rw names at v) a (rw names at l)

pub first_late_or : (ms : List Module) {P : Type 0} → (InOrder ms → P) → ((i j : ℕ) (x : List ℕ) → FirstLate ms i j x → P) → P
first_late_or ms {P} o f = by (modules_or [] ms)
  where
    by : ModulesOr [] ms → P
    by (each h) = o h
    by (found before middle behind is h passed d rest x entries v a l) =
        f (length before) (length passed) x
        (record {
          before = before;
          middle = middle;
          behind = behind;
          among = is;
          index = refl;
          modules = h;
          first = passed;
          entry = d;
          rest = rest;
          entries = entries;
          place = refl;
          passed = v;
          asks = a;
          late = l;
        })

-- sheets that get their reports are passed over
module _ (size : ℕ) (behind : Answer) where
  pass_sheets : (before rest : List Module) (i : ℕ) → All (Reported size) before
      → sheets_in_turn size i (before ++ rest) behind ≡ sheets_in_turn size (i + length before) rest behind
  pass_sheets [] rest i v = rw add-zero
  pass_sheets (m ∷ before) rest i v =
      let n : i + 1 + length before ≡ i + length (m ∷ before) = omega arith in
      reported_here {m = m} {rest = before ++ rest} refl size i behind v.0
      ∙ pass_sheets before rest (i + 1) v.1
      ∙ ap (λ n. sheets_in_turn size n rest behind) n

  pub all_sheets : (ms : List Module) → All (Reported size) ms → sheets_in_turn size 0 ms behind ≡ behind
  unfolding sheets_in_turn
  all_sheets ms v = rw append-nil at (pass_sheets ms [] 0 v)

  -- and the first that is refused is answered
  pub refusal_answered : {ms : List Module} {r i : ℕ} → FirstRefused size ms r i → sheets_in_turn size 0 ms behind ≡ refused r i
  refusal_answered {ms} {r} {i} f =
      ap (λ ms. sheets_in_turn size 0 ms behind) f.among
      ∙ pass_sheets f.before (f.middle ∷ f.behind) 0 f.reported
      ∙ rw (zero-add, f.index) (refused_here {m = f.middle} {rest = f.behind} refl size i behind f.number f.refusal)

data SheetsOr (size : ℕ) (ms : List Module) : Type 0 where
  reports : All (Reported size) ms → SheetsOr size ms
  stops : (before : List Module) (middle : Module) (behind : List Module) → ms ≡ before ++ middle ∷ behind → All (Reported size) before
      → (number_of size middle.sheet ≡ 0 → ⊥) → SheetsOr size ms

sheets_or : (size : ℕ) (ms : List Module) → SheetsOr size ms
sheets_or size [] = reports tt
sheets_or size (m ∷ ms) = by (eqb (number_of size m.sheet) 0) refl (sheets_or size ms)
  where
    by : (b : Bool) → eqb (number_of size m.sheet) 0 ≡ b → SheetsOr size ms → SheetsOr size (m ∷ ms)
    by true e (reports v) = reports (eqb-true (number_of size m.sheet) 0 e, v)
    by true e (stops before middle behind is v n) = stops (m ∷ before) middle behind (ap (m ∷◌) is) (eqb-true (number_of size m.sheet) 0 e, v) n
    by false e r = stops [] m ms refl tt (λ z. true≢false (sym (eq-eqb (number_of size m.sheet) 0 z) ∙ e))

pub first_refused_or : (size : ℕ) (ms : List Module) {P : Type 0} → (All (Reported size) ms → P) → ((r i : ℕ) → FirstRefused size ms r i → P) → P
first_refused_or size ms {P} o f = by (sheets_or size ms)
  where
    by : SheetsOr size ms → P
    by (reports v) = o v
    by (stops before middle behind is v n) =
        f (number_of size middle.sheet) (length before)
        (record { before = before; middle = middle; behind = behind; among = is; index = refl; reported = v; number = refl; refusal = n })
