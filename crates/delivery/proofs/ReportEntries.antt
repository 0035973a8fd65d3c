-- The entries of a report, read one after the other.
use Rattle.laws.proofs.Prelude.{◌≡◌, sym, ap, ◌∙◌, List, append_assoc, flat_map, ℕ, length, take}
use Rattle.std.specs.Prelude.{None, Option, Some}
use Rattle.wire.specs.Number.{encode_number}
use Rattle.report.specs.{ModuleInfo.DependencyDescriptor, ModuleInfo.ModuleInfo, Valid.ValidDependency, Valid.Valid}
use Rattle.report.specs.Encode.{encode_list, encode_dependency, encode}
use Rattle.report_reader.{specs.code.FromFront.ReadsNumber, proofs.FromBytes.flag_read}
use Rattle.report_reader.proofs.Lists.{Stand}
use Rattle.delivery.specs.{declared.entries.Late.Late, code.Views.late_as, code.Views.TellsLate, code.Views.LateReport}
use Rattle.delivery.specs.Order.{Answer, in_order, entries_of, entries_in_turn}
use Rattle.delivery.proofs.{Reported.Report, Orders.late_not_in_order}

-- the dependencies stand behind the script flag and their count
pub entries_start : {report : List ℕ} {info : ModuleInfo} {script count : ℕ} {behind next : List ℕ} → Valid info → report ≡ encode info
    → ReadsNumber report script behind → ReadsNumber behind count next →
    (u : List ℕ) × Stand encode_dependency ValidDependency u next count info.dependencies
unfolding encode encode_list
entries_start {info = info} valid bytes script counted =
    let e = flag_read script info.is_script _ bytes in
    let (long, e) = counted (length info.dependencies) valid.dependencies.0 _
    (e ∙ append_assoc (encode_number (length info.dependencies)) (flat_map encode_dependency info.dependencies) _) in
    (_, (sym long, valid.dependencies.1, e))

module _ {s work : List ℕ} {n : ℕ} (report : Report s n work) (names : List (List ℕ)) (o : Option Late) (told : TellsLate names (take n work) o) where
  in_sheet : (i : ℕ) (behind : Answer) → late_as i o behind ≡ entries_in_turn names i 0 (entries_of s) behind
  in_sheet i behind = told report.info report.valid report.bytes i behind ∙ ap (λ ds. entries_in_turn names i 0 ds behind) (sym report.entries)

  pub none_late : o ≡ None → LateReport names (entries_of s) work None
  none_late e i behind = rw e at (in_sheet i behind)

  pub some_late : {l : Late} → o ≡ Some l → LateReport names (entries_of s) work (Some n)
  some_late e = (report.info, report.valid, report.bytes, sym report.entries, λ i z. late_not_in_order (rw e at (in_sheet i in_order) ∙ z))

-- where one is late it is found again
pub late_again : (names : List (List ℕ)) {ds : List DependencyDescriptor} (work : List ℕ) (n : ℕ) (o : Option Late)
    → LateReport names ds work (Some n)
    → TellsLate names (take n work) o
    → ((i : ℕ) (behind : Answer) → late_as i o behind ≡ entries_in_turn names i 0 ds behind) × (o ≡ None → ⊥)
late_again names {ds} work n o (info, valid, bytes, same, late) told = (found, λ e. late 0 (sym (rw e at (found 0 in_order))))
  where
    found : (i : ℕ) (behind : Answer) → late_as i o behind ≡ entries_in_turn names i 0 ds behind
    found i behind = told info valid bytes i behind ∙ ap (λ ds. entries_in_turn names i 0 ds behind) same
