use Rattle.laws.proofs.Prelude.{◌≡◌, List, ℕ, ◌-◌}
use Rattle.report.specs.{ModuleInfo.DependencyDescriptor, ModuleInfo.ModuleInfo, Encode.encode_dependency, Encode.encode, Valid.ValidDependency, Valid.Valid}
use Rattle.laws.specs.code.Among.{EndOf}
use Rattle.report_reader.proofs.Lists.{Stand}
use Rattle.delivery.specs.{Order.Answer, Order.entries_in_turn, Right.names_of, code.Views.modules_in}
use Rattle.delivery.proofs.entries.late_entry.Given as goal

abbrev pub invariant-loop-i : goal.invariant-loop-i
invariant-loop-i l =
    let names = names_of (modules_in l.earlier) in
    EndOf l.next l.report
    × ((info : ModuleInfo) → Valid info → l.report ≡ encode info → (k : ℕ) (behind : Answer)
    → (ds : List DependencyDescriptor) × (u : List ℕ) × Stand encode_dependency ValidDependency u l.next (l.count - l.i) ds
    × (entries_in_turn names k 0 info.dependencies behind ≡ entries_in_turn names k l.i ds behind))
