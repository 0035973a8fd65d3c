-- What is answered of both buffers, the report's and that of the rules, is as demanded.
use Rattle.laws.proofs.Prelude.{◌≡◌, refl, sym, ap, ◌∙◌, Bool, true, false, cond, ◌↔◌, List, [], ℕ, ◌≤◌, ◌<◌, arith, leb, length}
use Rattle.laws.proofs.Prelude.{leb-true, leb-false, le-leb, lt-leb, length-append, length-replicate, false≢true}
use Rattle.laws.{specs.Decoded.ok, specs.Decoded.no, proofs.Decoding.refused}
use Rattle.wire.specs.Refusals.{of_sheets, one_of}
use Rattle.wire.specs.Refusals as refusals
use Rattle.sheet.specs.{Sheet.Sheet, Sheet.accept, Judge.judge}
use Rattle.sheet_codec.{specs.SheetOf.SheetOf, proofs.Sheets.accepts_exactly}
use Rattle.sheet_codec.proofs.Refusals.{apart, Decision, decided, cut_off_lem, judged_sheet, judged_refusal}
use Rattle.std.specs.Prelude.{Ok, Err}
use Rattle.std.specs.Result.{is_err}
use Rattle.wire.specs.declared.refusals.Refusal.TheVariants.{Rules}
use Rattle.wire.{specs.declared.refusals.Refusal.Refusal, specs.Refusals.number_of, proofs.RefusalNumbers.some_number}
use Rattle.report.specs.{ModuleInfo.ModuleInfo, Encode.encode}
use Rattle.report.specs.Answer.{Answer, zeros, accepted, refused_with, fitted, outcome_as}
use Rattle.module_info.{specs.Information.module_info, specs.Information.default_info, specs.Demands.Demands, proofs.Notes.refused_ten}
use Rattle.rules.specs.code.Cleared.{cleared_as}
use Rattle.rules.specs.Rules.{Ruled, rules_of, Answers, refused_both, both_fitted, both_of, both_as, report_of, DemandsOfBoth}
use Rattle.module_info.proofs.Accepted.{same_sheet, formed_source, fit}
use Rattle.module_info.proofs.Demanded.{demanded, refusal_demanded, empty_demanded}
use Rattle.rules.proofs.Origins.{rules_right}

-- an answer of acceptance is one of bytes that have room
accepted_in : (size : ℕ) (a : List ℕ) {n : ℕ} {buffer : List ℕ} → outcome_as (Ok n) buffer ≡ fitted size a →
    (leb (length a) size ≡ true) × (outcome_as (Ok n) buffer ≡ accepted size a)
unfolding fitted
accepted_in size a {n} {buffer} e = by (leb (length a) size) refl e
  where
    by : (x : Bool) → leb (length a) size ≡ x → outcome_as (Ok n) buffer ≡ cond x (accepted size a) (refused_with refusals.buffer size)
        → (leb (length a) size ≡ true) × (outcome_as (Ok n) buffer ≡ accepted size a)
    by true h f = (h, f)
    by false h f = let never : 0 ≡ refusals.buffer = ap (λ (x : Answer). x.number) f in absurd (omega arith)

-- and one of refusal of bytes that have none, whose buffer is zero
refused_in : (size : ℕ) (a : List ℕ) (r : Refusal) {buffer : List ℕ} → outcome_as (Err r) buffer ≡ fitted size a
    → (leb (length a) size ≡ false) × (buffer ≡ zeros size)
unfolding fitted
refused_in size a r {buffer} e = by (leb (length a) size) refl e
  where
    by : (x : Bool) → leb (length a) size ≡ x → outcome_as (Err r) buffer ≡ cond x (accepted size a) (refused_with refusals.buffer size)
        → (leb (length a) size ≡ false) × (buffer ≡ zeros size)
    by true h f = let never : number_of r ≡ 0 = ap (λ (x : Answer). x.number) f in absurd (omega (arith, some_number r))
    by false h f = (h, ap (λ (x : Answer). x.buffer) f)

module _ (size room : ℕ) where
  -- the report has no room
  pub first_refused : (m : ModuleInfo) (b : List ℕ) (r : Refusal) {buffer : List ℕ} → outcome_as (Err r) buffer ≡ fitted size (encode m)
      → refused_both (number_of r) size room ≡ both_fitted size room (encode m) b
  unfolding both_fitted
  first_refused m b r {buffer} e = rw (refused_ten size r buffer m e, (refused_in size (encode m) r e).0)

  -- it has room, and the rules have none
  pub second_refused : (a b : List ℕ) (r : Refusal) {n : ℕ} {buffer rules : List ℕ} → outcome_as (Ok n) buffer ≡ fitted size a
      → outcome_as (Err r) rules ≡ fitted room b → cleared_as (Err Rules) buffer rules ≡ both_fitted size room a b
  unfolding both_fitted
  second_refused a b r {n} {buffer} e f =
      let (fits, first) = accepted_in size a e in
      let (none, clear) = refused_in room b r f in
      let few = leb-true (length a) size fits in
      let long : length buffer ≡ size = ap (λ (x : Answer). length x.buffer) first ∙ simp (length-append, length-replicate) (omega (arith, few)) in
      rw (fits, none, long, clear, length-replicate) refl

  -- or they have room too
  pub both_accepted : (a b : List ℕ) {n k : ℕ} {buffer rules : List ℕ} → outcome_as (Ok n) buffer ≡ fitted size a → outcome_as (Ok k) rules ≡ fitted room b
      → both_as (Ok (record { report = n; rules = k })) buffer rules ≡ both_fitted size room a b
  unfolding both_fitted
  both_accepted a b e f =
      let (room_a, first) = accepted_in size a e in
      let (room_b, second) = accepted_in room b f in
      rw (room_a, room_b, ← first, ← second)

  -- but for 16, the report's answer is that of the report alone
  as_before : (a b : List ℕ) {x : Answers} → x ≡ both_fitted size room a b → (x.report.number ≡ refusals.rules → ⊥) → x.report ≡ fitted size a
  unfolding fitted both_fitted
  as_before a b {x} e other = by (leb (length a) size) (leb (length b) room) e
    where
      by : (y z : Bool) → x ≡ cond y (cond z (record { report = accepted size a; rules = accepted room b })
          (refused_both refusals.rules size room)) (refused_both refusals.buffer size room)
          → x.report ≡ cond y (accepted size a) (refused_with refusals.buffer size)
      by true true f = ap (λ (x : Answers). x.report) f
      by true false f = absurd (other (ap (λ (x : Answers). x.report.number) f))
      by false z f = ap (λ (x : Answers). x.report) f

  -- and it is 16 exactly where the report has room and the rules have none
  is_sixteen : (a b : List ℕ) → ((both_fitted size room a b).report.number ≡ refusals.rules) ↔ ((length a ≤ size) × (room < length b))
  unfolding both_fitted
  is_sixteen a b = (λ e. by (leb (length a) size) refl (leb (length b) room) refl e, λ (h, i). rw (le-leb (length a) size h, lt-leb (length b) room i))
    where
      by : (y : Bool) → leb (length a) size ≡ y → (z : Bool) → leb (length b) room ≡ z
          → (cond y (cond z (record { report = accepted size a; rules = accepted room b }) (refused_both refusals.rules size room))
          (refused_both refusals.buffer size room)).report.number ≡ refusals.rules
          → (length a ≤ size) × (room < length b)
      by true h true i e = absurd (omega (arith, e))
      by true h false i e = (leb-true (length a) size h, leb-false (length b) room i)
      by false h z i e = absurd (omega (arith, e))

-- the report's part of an answer
part_of : (o : Ruled) (buffer rules : List ℕ) → outcome_as (report_of o) buffer ≡ (both_as o buffer rules).report
part_of (Ok l) buffer rules = refl
part_of (Err r) buffer rules = refl

-- ---- what is demanded, by what the bytes are

number_is : (o : Ruled) (buffer rules : List ℕ) {x : Answers} → both_as o buffer rules ≡ x → (outcome_as (report_of o) buffer).number ≡ x.report.number
number_is o buffer rules e = ap (λ (x : Answer). x.number) (part_of o buffer rules) ∙ ap (λ (x : Answers). x.report.number) e

-- what the answer is, by what the bytes are
module _ (s : List ℕ) (size room : ℕ) where
  pub both_empty : s ≡ [] → both_of s size room ≡ both_fitted size room (encode default_info) []
  unfolding both_of judge
  both_empty e = rw e refl

  pub both_refusal : {r : ℕ} → 0 < length s → accept s ≡ no r → both_of s size room ≡ refused_both r size room
  unfolding both_of
  both_refusal some e = rw (judged_refusal s some e) refl

  pub both_sheet : {t : Sheet} → accept s ≡ ok t [] → both_of s size room ≡ both_fitted size room (encode (module_info t)) (rules_of t)
  unfolding both_of
  both_sheet e = rw (judged_sheet s e) refl

module _ (s : List ℕ) {size room : ℕ} {o : Ruled} {buffer rules : List ℕ} (answer : both_as o buffer rules ≡ both_of s size room) where
  -- where the bytes are no sheet
  no_sheet : ((t : Sheet) → SheetOf s t → ⊥) → ((outcome_as (report_of o) buffer).number ≡ refusals.rules → ⊥)
      → Demands s size (report_of o) buffer → DemandsOfBoth s size room o buffer rules
  no_sheet none other report = record {
    answer = answer;
    complete = λ t h. absurd (none t h);
    sixteen = (λ e. absurd (other e), λ (t, h, i, j). absurd (none t h));
    report = λ e. report;
    origins = λ t h. absurd (none t h);
  }

  empty_right : s ≡ [] → DemandsOfBoth s size room o buffer rules
  empty_right e =
      let is = answer ∙ both_empty s size room e in
      let other : (outcome_as (report_of o) buffer).number ≡ refusals.rules →
      ⊥ = λ f. omega (arith, ((is_sixteen size room (encode default_info) []).0 (sym (number_is o buffer rules is) ∙ f)).1) in
      no_sheet (λ t h. refused (sym cut_off_lem ∙ (rw e at ((accepts_exactly s t).1 h)))) other
      (empty_demanded s e (part_of o buffer rules ∙ as_before size room (encode default_info) [] is (λ f. other (number_is o buffer rules refl ∙ f))))

  refusal_right : {r : ℕ} → one_of of_sheets r ≡ true → 0 < length s → accept s ≡ no r → DemandsOfBoth s size room o buffer rules
  unfolding one_of
  refusal_right among some e =
      let is = answer ∙ both_refusal s size room some e in
      no_sheet (λ t h. refused (sym e ∙ (accepts_exactly s t).1 h))
      (λ f. apart of_sheets among (sym (number_is o buffer rules is) ∙ f) refl)
      (refusal_demanded s some e (part_of o buffer rules ∙ ap (λ (x : Answers). x.report) is))

  sheet_right : {t : Sheet} → accept s ≡ ok t [] → DemandsOfBoth s size room o buffer rules
  sheet_right {t} e = record {
    answer = answer;
    complete = λ u h. rw (same_sheet ((accepts_exactly s u).1 h) e) is;
    sixteen = (
      λ f.
          let (room_first, none_second) = (is_sixteen size room _ _).0 (sym (number_is o buffer rules is) ∙ f) in
          (t, (accepts_exactly s t).0 e, room_first, none_second),
      λ (u, h, i, j).
          let same = same_sheet ((accepts_exactly s u).1 h) e in
          number_is o buffer rules is ∙ (is_sixteen size room _ _).1 (rw same at i, rw same at j),
    );
    report = λ other. demanded e
        (part_of o buffer rules ∙ as_before size room (encode (module_info t)) (rules_of t) is (λ f. other (number_is o buffer rules refl ∙ f)));
    origins = λ u h. rules_right u (formed_source s ((accepts_exactly s u).1 h)) (fit s ((accepts_exactly s u).1 h));
  }
    where
      is : both_as o buffer rules ≡ both_fitted size room (encode (module_info t)) (rules_of t)
      is = answer ∙ both_sheet s size room e

  pub both_right : DemandsOfBoth s size room o buffer rules
  both_right = by (decided s)
    where
      by : Decision s → DemandsOfBoth s size room o buffer rules
      by (Decision.empty e) = empty_right e
      by (Decision.accepted t e) = sheet_right e
      by (Decision.refused r among some e) = refusal_right among some e

-- an answer of refusal, whose buffers are cleared then, and one of acceptance
module _ (buffer rules : List ℕ) where
  pub cleared_refusal : (o : Ruled) {cleared cleared' : List ℕ} → is_err o ≡ true → cleared ≡ zeros (length buffer) → cleared' ≡ zeros (length rules)
      → both_as o cleared cleared' ≡ cleared_as o buffer rules
  cleared_refusal (Ok l) h e f = absurd (false≢true h)
  cleared_refusal (Err r) h e f = rw (e, f)

  pub cleared_accepted : (o : Ruled) → is_err o ≡ false → both_as o buffer rules ≡ cleared_as o buffer rules
  cleared_accepted (Ok l) h = refl
  cleared_accepted (Err r) h = absurd (false≢true (sym h))
