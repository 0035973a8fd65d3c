-- The specifier of the first entry that is late is no longer than the work buffer.
use Rattle.laws.proofs.Prelude.{◌≡◌, sym, ap, ◌∙◌, Bool, true, false, cond, List, [], Memᴰ, ℕ, ◌≤◌, arith, length, length-append}
use Rattle.laws.{specs.Decoded.Decoded, specs.Decoded.ok, specs.Decoded.no, proofs.Lists.all_member, proofs.Lists.middle_member, proofs.Lists.part_flat_map}
use Rattle.wire.specs.Text.{encode_text}
use Rattle.report.specs.ModuleInfo.{StaticDependencyDescriptor, DependencyDescriptor, static, ModuleInfo}
use Rattle.report.specs.Encode.{encode_list, encode_specifier, encode_static, encode_dependency, encode}
use Rattle.delivery.specs.{Delivery.Module, Delivery.decode_delivery, Asks.Asks, Right.Reported}
use Rattle.delivery.specs.Order.{not_in_order, refused, repeated, order_in, order_of}
use Rattle.delivery.proofs.{Reported.report_fits, Orders.answer, Orders.judged_right, Orders.refused_not_late}

text_short : (d : StaticDependencyDescriptor) → length d.specifier.text ≤ length (encode_dependency (static d))
unfolding encode_dependency encode_static encode_specifier encode_text
text_short d = simp length-append (omega arith)

entry_short : {d : DependencyDescriptor} (info : ModuleInfo) → Memᴰ d info.dependencies → length (encode_dependency d) ≤ length (encode info)
unfolding encode encode_list
entry_short info i = simp length-append (omega (arith, simp length-append at (ap length (part_flat_map encode_dependency info.dependencies i).among)))

asked_short : {d : DependencyDescriptor} {x : List ℕ} (info : ModuleInfo) → Asks d x → Memᴰ d info.dependencies → length x ≤ length (encode info)
asked_short info asks i =
    rw (← asks.specifier) (omega (arith, text_short asks.descriptor, rw asks.is_static at (entry_short info i)))

pub late_short : (size : ℕ) (s : List ℕ) {i j : ℕ} {x : List ℕ} → order_of size s ≡ not_in_order i j x → length x ≤ size
unfolding order_of
late_short size s {i} {j} {x} e = by (decode_delivery s) e
  where
    by_names : (ms : List Module) (b : Bool) → cond b (refused 12 0) (answer size ms) ≡ not_in_order i j x → length x ≤ size
    by_names ms true e = absurd (refused_not_late (sym e))
    by_names ms false e =
        let (reported, f) = ((judged_right size ms).not_in_order_means i j x).0 e in
        let (info, entries, fits) = report_fits f.middle.sheet size (all_member (Reported size) ms reported (middle_member f.before f.behind f.among)) in
        omega (arith, asked_short info f.asks (middle_member f.first f.rest (sym entries ∙ f.entries)), fits)

    by : (d : Decoded (List Module)) → order_in size d ≡ not_in_order i j x → length x ≤ size
    by (ok ms t) e = by_names ms (repeated [] ms) e
    by (no r) e = absurd (refused_not_late (sym e))
