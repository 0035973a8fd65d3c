-- What the number of an answer says.
use Rattle.laws.proofs.Prelude.{◌≡◌, refl, sym, ◌∙◌, Bool, true, false, cond, ◌⊎◌, inl, inr, ⊎_elim, ◌↔◌, List, [], ◌++◌, ℕ, ◌<◌, arith, leb, length}
use Rattle.laws.proofs.Prelude.{length-append}
use Rattle.laws.specs.Decoded.{Decoded, ok, no}
use Rattle.laws.proofs.Decoding.{refused}
use Rattle.wire.specs.Refusals.{at_fields, of_sheets, one_of}
use Rattle.wire.specs.Refusals as refusals
use Rattle.sheet.specs.{Sheet.Sheet, Sheet.accept, Judge.judge}
use Rattle.sheet_codec.{specs.SheetOf.SheetOf, proofs.Sheets.accepts_exactly}
use Rattle.sheet_codec.proofs.Refusals.{passes, apart, Decision, decided, cut_off_lem, judged_sheet, judged_refusal, one, at_field, eight, nine, stays}
use Rattle.report.specs.Encode.{encode}
use Rattle.report.specs.Answer.{accepted, refused_with, fitted}
use Rattle.module_info.specs.Information.{module_info, default_info, answer_of}
use Rattle.module_info.specs.Numbers.{NumberRight}

-- a report's answer has number 0 or 10
report_number : (size : ℕ) (bytes : List ℕ) → ((fitted size bytes).number ≡ 0) ⊎ ((fitted size bytes).number ≡ refusals.buffer)
unfolding fitted
report_number size bytes = go (leb (length bytes) size)
  where
    go : (b : Bool) → ((cond b (accepted size bytes) (refused_with refusals.buffer size)).number
        ≡ 0) ⊎ ((cond b (accepted size bytes) (refused_with refusals.buffer size)).number ≡ refusals.buffer)
    go true = inl refl
    go false = inr refl

-- so has that of no bytes, and that of an accepted sheet
empty_number : (s : List ℕ) (size : ℕ) → s ≡ [] → ((answer_of s size).number ≡ 0) ⊎ ((answer_of s size).number ≡ refusals.buffer)
unfolding answer_of judge
empty_number s size e = rw e (report_number size (encode default_info))

accepted_number : (s : List ℕ) (size : ℕ) {t : Sheet} → accept s ≡ ok t [] → ((answer_of s size).number ≡ 0) ⊎ ((answer_of s size).number ≡ refusals.buffer)
unfolding answer_of
accepted_number s size {t} e = rw (judged_sheet s e) (report_number size (encode (module_info t)))

-- the number of a refusal
pub refusal_number : (s : List ℕ) (size : ℕ) {r : ℕ} → 0 < length s → accept s ≡ no r → (answer_of s size).number ≡ r
unfolding answer_of
refusal_number s size some e = rw (judged_refusal s some e)

-- a number of a sheet's refusals is that of its refusal, and there are bytes
pub number_refusal : (s : List ℕ) (size : ℕ) → one_of of_sheets (answer_of s size).number ≡ true → (0 < length s) × (accept s ≡ no (answer_of s size).number)
unfolding one_of
number_refusal s size among = by (decided s)
  where
    neither : ((answer_of s size).number ≡ 0) ⊎ ((answer_of s size).number ≡ refusals.buffer) → ⊥
    neither n = ⊎_elim (λ (i : (answer_of s size).number ≡ 0). apart of_sheets among i refl)
        (λ (i : (answer_of s size).number ≡ refusals.buffer). apart of_sheets among i refl) n

    by : Decision s → (0 < length s) × (accept s ≡ no (answer_of s size).number)
    by (Decision.empty e) = absurd (neither (empty_number s size e))
    by (Decision.accepted t e) = absurd (neither (accepted_number s size e))
    by (Decision.refused r a some e) = (some, rw (refusal_number s size some e) e)

pub number_right : (s : List ℕ) (size : ℕ) → NumberRight s (answer_of s size).number
unfolding one_of
number_right s size =
    record {
      known = known (decided s);
      accepted = (λ n. of_report n (decided s), to_report);
      one = exactly refusals.sheet_length refl (λ e. omega arith) (one s);
      at_field = λ among. at_field s among (refusal (of_fields among)).1;
      stays = λ among not_cut u fits other.
          let (some, e) = refusal (of_fields among) in
          refusal_number (s ++ u) other (rw length-append (omega arith)) (stays s u among not_cut e fits);
      eight = exactly refusals.trailing refl (λ e. omega arith) (eight s);
      nine = exactly refusals.uncooked refl (λ e. omega arith) (nine s);
    }
  where
    refusal : one_of of_sheets (answer_of s size).number ≡ true → (0 < length s) × (accept s ≡ no (answer_of s size).number)
    refusal = number_refusal s size

    of_fields : one_of at_fields (answer_of s size).number ≡ true → one_of of_sheets (answer_of s size).number ≡ true
    of_fields = passes (one_of of_sheets) at_fields refl (answer_of s size).number

    -- such a number, other than that of a field cut off, is answered just where it is the refusal
    exactly : {P : Type 0} (r : ℕ) → one_of of_sheets r ≡ true → (refusals.cut_off ≡ r → ⊥) → (accept s ≡ no r) ↔ P → ((answer_of s size).number ≡ r) ↔ P
    exactly r among other k = (λ i. k.0 (rw i at (refusal (rw i among)).1), λ p. back (k.1 p) (decided s))
      where
        back : accept s ≡ no r → Decision s → (answer_of s size).number ≡ r
        back e (Decision.empty f) = let g : ◌≡◌ {A = Decoded Sheet} (no refusals.cut_off) (no r) = sym cut_off_lem ∙ (rw f at e) in absurd (other (cc))
        back e (Decision.accepted t f) = absurd (refused (sym e ∙ f))
        back e (Decision.refused q a some f) = refusal_number s size some e

    known : Decision s → ((answer_of s size).number ≡ 0) ⊎ ((one_of of_sheets (answer_of s size).number ≡ true) ⊎ ((answer_of s size).number ≡ refusals.buffer))
    known (Decision.empty e) = ⊎_elim (λ i. inl i) (λ i. inr (inr i)) (empty_number s size e)
    known (Decision.accepted t e) = ⊎_elim (λ i. inl i) (λ i. inr (inr i)) (accepted_number s size e)
    known (Decision.refused r a some e) = inr (inl (rw (refusal_number s size some e) a))

    of_report : ((answer_of s size).number ≡ 0) ⊎ ((answer_of s size).number ≡ refusals.buffer) → Decision s → (s ≡ []) ⊎ ((t : Sheet) × SheetOf s t)
    of_report n (Decision.empty e) = inl e
    of_report n (Decision.accepted t e) = inr (t, (accepts_exactly s t).0 e)
    of_report (inl n) (Decision.refused r a some e) = absurd (apart of_sheets a (sym (refusal_number s size some e) ∙ n) refl)
    of_report (inr n) (Decision.refused r a some e) = absurd (apart of_sheets a (sym (refusal_number s size some e) ∙ n) refl)

    to_report : (s ≡ []) ⊎ ((t : Sheet) × SheetOf s t) → ((answer_of s size).number ≡ 0) ⊎ ((answer_of s size).number ≡ refusals.buffer)
    to_report (inl e) = empty_number s size e
    to_report (inr (t, h)) = accepted_number s size ((accepts_exactly s t).1 h)
