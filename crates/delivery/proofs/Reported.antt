-- What the report function answers of a sheet: a refusal's number, which is not 0, or a report, which lists the sheet's entries.
use Rattle.laws.proofs.Prelude.{◌≡◌, refl, sym, ap, ◌∙◌, Bool, true, false, List, [], ◌++◌, ℕ, ◌-◌, ◌≤◌, arith, leb, length, take, length-append}
use Rattle.laws.proofs.Prelude.{take-append_seam, leb-true}
use Rattle.wire.specs.Refusals.{of_sheets, one_of}
use Rattle.wire.specs.Refusals as refusals
use Rattle.sheet.specs.{Judge.judge, Sheet.Sheet}
use Rattle.sheet_codec.{specs.SheetOf.SheetOf, proofs.Sheets.accepts_exactly}
use Rattle.sheet_codec.proofs.Refusals.{apart, Decision, decided, judged_sheet, judged_refusal}
use Rattle.report.specs.{ModuleInfo.ModuleInfo, Encode.encode, Valid.Valid}
use Rattle.report.specs.Answer.{Answer, zeros, accepted, refused_with, fitted, Outcome}
use Rattle.std.specs.Prelude.{Ok, Err}
use Rattle.wire.specs.{declared.refusals.Refusal.Refusal}
use Rattle.module_info.specs.Information.{module_info, default_info, answer_of}
use Rattle.module_info.specs.Demands.{Demands}
use Rattle.delivery.specs.Order.{entries_of, number_of}

-- a report has bytes
some_bytes : (m : ModuleInfo) → 0 ≡ length (encode m) → ⊥
unfolding encode
some_bytes m e = absurd (omega arith)

-- information of which the report is answered
record Asked (s : List ℕ) (size : ℕ) (info : ModuleInfo) : Type 0 where
  answer : answer_of s size ≡ fitted size (encode info)
  entries : entries_of s ≡ info.dependencies

-- there is such information, or there is a refusal of a sheet
data Question (s : List ℕ) (size : ℕ) (P : ModuleInfo → Type 0) : Type 0 where
  asked : (info : ModuleInfo) → Asked s size info → P info → Question s size P
  refused : (r : ℕ) → one_of of_sheets r ≡ true → answer_of s size ≡ refused_with r size → Question s size P

module _ (s : List ℕ) (size : ℕ) where
  question : (P : ModuleInfo → Type 0) → (s ≡ [] → P default_info) → ((t : Sheet) → SheetOf s t → P (module_info t)) → Question s size P
  unfolding answer_of judge entries_of
  question P none some = by (decided s)
    where
      by : Decision s → Question s size P
      by (Decision.empty e) = asked default_info (record { answer = rw e; entries = rw e }) (none e)
      by (Decision.accepted t e) =
          asked (module_info t) (record { answer = rw (judged_sheet s e); entries = rw (judged_sheet s e) }) (some t ((accepts_exactly s t).0 e))
      by (Decision.refused r among there e) = refused r among (rw (judged_refusal s there e))

  -- 11 and 12 are no number of a sheet
  pub not_of_sheets : {r : ℕ} → number_of size s ≡ r → (r ≡ 0 → ⊥) → (r ≡ refusals.buffer → ⊥) → one_of of_sheets r ≡ false → ⊥
  unfolding fitted
  not_of_sheets {r} is zero' ten outside = by (question (λ m. Unit {0}) (λ e. tt) (λ t h. tt))
    where
      by_room : (bytes : List ℕ) (b : Bool) → leb (length bytes) size ≡ b → answer_of s size ≡ fitted size bytes → ⊥
      by_room bytes true h e = zero' (sym is ∙ ap (λ (x : Answer). x.number) (rw h at e))
      by_room bytes false h e = ten (sym is ∙ ap (λ (x : Answer). x.number) (rw h at e))

      by : Question s size (λ m. Unit {0}) → ⊥
      by (asked info a p) = by_room (encode info) (leb (length (encode info)) size) refl a.answer
      by (refused q among e) = apart of_sheets among (sym (ap (λ (x : Answer). x.number) e) ∙ is) outside

  -- where no refusal is answered, its report is no longer than the buffer
  pub report_fits : number_of size s ≡ 0 → (info : ModuleInfo) × (entries_of s ≡ info.dependencies) × (length (encode info) ≤ size)
  unfolding one_of fitted
  report_fits none = by (question (λ m. Unit {0}) (λ e. tt) (λ t h. tt))
    where
      by_room : (info : ModuleInfo) → Asked s size info → (b : Bool) → leb (length (encode info)) size ≡ b
          → (info : ModuleInfo) × (entries_of s ≡ info.dependencies) × (length (encode info) ≤ size)
      by_room info a true h = (info, a.entries, leb-true (length (encode info)) size h)
      by_room info a false h =
          let ten : ◌≡◌ {A = ℕ} 0 refusals.buffer = sym none ∙ ap (λ (x : Answer). x.number) (rw h at a.answer) in
          absurd (omega arith)

      by : Question s size (λ m. Unit {0}) → (info : ModuleInfo) × (entries_of s ≡ info.dependencies) × (length (encode info) ≤ size)
      by (asked info a p) = by_room info a (leb (length (encode info)) size) refl
      by (refused r among e) = absurd (apart of_sheets among (sym (ap (λ (x : Answer). x.number) e) ∙ none) refl)

-- a report that was answered: the encoding of information whose dependencies are the sheet's entries
pub record Report (s : List ℕ) (n : ℕ) (buffer : List ℕ) : Type 0 where
  pub info : ModuleInfo
  pub within : n ≤ length buffer
  pub valid : Valid info
  pub bytes : take n buffer ≡ encode info
  pub entries : entries_of s ≡ info.dependencies

module _ {s buffer : List ℕ} {size : ℕ} where
  valid_question : {outcome : Outcome} → Demands s size outcome buffer → Question s size Valid
  valid_question d = question s size Valid (λ e. (d.empty e).report.fits) (λ t h. (d.report t h).fits)

  pub reported : {n : ℕ} → Demands s size (Ok n) buffer → (number_of size s ≡ 0) × Report s n buffer
  unfolding one_of fitted
  reported {n} d = (sym (ap (λ (x : Answer). x.number) d.answer), by (valid_question d))
    where
      by_room : (info : ModuleInfo) → Asked s size info → Valid info → (b : Bool) → leb (length (encode info)) size ≡ b → Report s n buffer
      by_room info a v true h =
          let bytes = encode info in
          let answer : record { number = 0; written = n; buffer = buffer } ≡ accepted size bytes = rw h at (d.answer ∙ a.answer) in
          let long : n ≡ length bytes = ap (λ (x : Answer). x.written) answer in
          let held : buffer ≡ bytes ++ zeros (size - length bytes) = ap (λ (x : Answer). x.buffer) answer in
          record {
            info = info;
            within = omega (arith, ap length held, length-append bytes (zeros (size - length bytes)));
            valid = v;
            bytes = rw (long, held) (take-append_seam bytes _);
            entries = a.entries;
          }
      by_room info a v false h =
          let none : ◌≡◌ {A = ℕ} 0 refusals.buffer = ap (λ (x : Answer). x.number) (rw h at (d.answer ∙ a.answer)) in
          absurd (omega arith)

      by : Question s size Valid → Report s n buffer
      by (asked info a v) = by_room info a v (leb (length (encode info)) size) refl
      by (refused r among e) =
          let none : 0 ≡ r = ap (λ (x : Answer). x.number) (d.answer ∙ e) in
          absurd (apart of_sheets among (sym none) refl)

  -- a refusal that was answered
  pub refused_number : {r : Refusal} → Demands s size (Err r) buffer → (number_of size s ≡ refusals.number_of r) × (refusals.number_of r ≡ 0 → ⊥)
  unfolding one_of fitted
  refused_number {r} d = (sym (ap (λ (x : Answer). x.number) d.answer), by (valid_question d))
    where
      by_room : (info : ModuleInfo) → Asked s size info → (b : Bool) → leb (length (encode info)) size ≡ b → refusals.number_of r ≡ 0 → ⊥
      by_room info a true h z = some_bytes info (ap (λ (x : Answer). x.written) (rw h at (d.answer ∙ a.answer)))
      by_room info a false h z =
          let ten : refusals.number_of r ≡ refusals.buffer = ap (λ (x : Answer). x.number) (rw h at (d.answer ∙ a.answer)) in
          omega arith

      by : Question s size Valid → refusals.number_of r ≡ 0 → ⊥
      by (asked info a v) z = by_room info a (leb (length (encode info)) size) refl z
      by (refused q among e) z =
          let same : refusals.number_of r ≡ q = ap (λ (x : Answer). x.number) (d.answer ∙ e) in
          apart of_sheets among (sym same ∙ z) refl
