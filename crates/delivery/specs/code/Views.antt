-- What the code's answers stand for.
use Rattle.std.specs.Prelude.{◌≡◌, ℕ}
use mathlib.Core.List.{List, [], ◌++◌, map}
use Rattle.std.specs.Prelude.{None, Option, Some, option_map, Result, Ok, Err, take}
use Rattle.std.specs.Borrow.{Bor}
use Rattle.laws.specs.Decoded.{Decoded, ok, no}
use Rattle.report.specs.ModuleInfo.{DependencyDescriptor, ModuleInfo}
use Rattle.report.specs.Encode.{encode_dependency, encode}
use Rattle.report.specs.Valid.{Short, ValidDependency, Valid}
use Rattle.wire.specs.declared.refusals.Refusal.{Refusal}
use Rattle.wire.specs.Refusals.{number_of}
use Rattle.delivery.specs.declared.modules.ModuleRead.{ModuleRead}
use Rattle.delivery.specs.declared.entries.Late.{Late}
use Rattle.delivery.specs.declared.judge.{RefusedModule.RefusedModule, LateModule.LateModule}
use Rattle.delivery.specs.Delivery.{Module}
use Rattle.delivery.specs.Order.{Answer, in_order, not_in_order, refused, late_in, entries_in_turn}

-- a name and a sheet
abbrev pub module_as : ModuleRead → Module
module_as r = record { name = r.name.now; sheet = r.sheet.now }

-- lengths of a name and a sheet that can be written
pub record ValidModule (m : Module) : Type 0 where
  pub name : Short m.name
  pub sheet : Short m.sheet

-- the modules that rows hold
abbrev pub modules_in : List ModuleRead → List Module
modules_in = map module_as

-- a module in each row, and what is behind them; or a refusal
abbrev pub rows_as : List ModuleRead → Result (Bor (List ℕ)) Refusal → Decoded (List Module)
rows_as rows (Ok next) = ok (modules_in rows) next.now
rows_as rows (Err r) = no (number_of r)

-- what a decoder answers, whatever number a refusal has
abbrev pub unnumbered : {A : Type 0} → Decoded A → Decoded A
unnumbered (ok a t) = ok a t
unnumbered (no r) = no 0

-- all modules and nothing behind them, or a refusal without its number
abbrev pub checked_as : Option (Bor (List ModuleRead)) → Decoded (List Module)
checked_as (Some rows) = ok (modules_in rows.now) []
checked_as None = no 0

-- if the bytes of a valid dependency stand at the front of some bytes, it is judged whether it is late, and the bytes behind it are found
abbrev pub JudgesEntry : List (List ℕ) → List ℕ → Option (Bor (List ℕ)) × Bor (List ℕ) → Type 0
JudgesEntry earlier s r =
    (d : DependencyDescriptor) → ValidDependency d → (t : List ℕ) → s ≡ encode_dependency d ++ t
    → (option_map (λ x. x.now) r.0 ≡ late_in earlier d) × (r.1.now ≡ t)

-- the first entry of module i that is late, or what is behind
abbrev pub late_as : ℕ → Option Late → Answer → Answer
late_as i (Some l) behind = not_in_order i l.entry l.specifier.now
late_as i None behind = behind

-- the first entry of a report that is late, or none
abbrev pub TellsLate : List (List ℕ) → List ℕ → Option Late → Type 0
TellsLate earlier report o =
    (info : ModuleInfo) → Valid info → report ≡ encode info → (i : ℕ) (behind : Answer)
    → late_as i o behind ≡ entries_in_turn earlier i 0 info.dependencies behind

-- the length of a report of these entries at the front of the work buffer, where one is late; or none is
abbrev pub LateReport : List (List ℕ) → List DependencyDescriptor → List ℕ → Option ℕ → Type 0
LateReport earlier ds work (Some n) =
    (info : ModuleInfo) × Valid info × (take n work ≡ encode info) × (info.dependencies ≡ ds)
    × ((i : ℕ) → entries_in_turn earlier i 0 ds in_order ≡ in_order → ⊥)
LateReport earlier ds work None = (i : ℕ) (behind : Answer) → behind ≡ entries_in_turn earlier i 0 ds behind

-- the first refused sheet, or what is behind
abbrev pub sheets_as : Result (Unit {0}) RefusedModule → Answer → Answer
sheets_as (Ok x) behind = behind
sheets_as (Err r) behind = refused (number_of r.refusal) r.module

-- the first entry of all that is late
abbrev pub late_module_as : Option LateModule → Answer
late_module_as None = in_order
late_module_as (Some l) = not_in_order l.module l.late.entry l.late.specifier.now

-- the answer
abbrev pub judgement_as : Result (Option LateModule) RefusedModule → Answer
judgement_as (Ok o) = late_module_as o
judgement_as (Err r) = refused (number_of r.refusal) r.module
