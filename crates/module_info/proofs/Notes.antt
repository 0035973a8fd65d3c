-- What cleared notes hold once rows are noted in them.
use Rattle.laws.proofs.Prelude.{◌≡◌, refl, sym, ap, ◌∙◌, Bool, true, false, cond, List, [], ◌∷◌, ◌++◌, append-nil, append_assoc, flat_map, ℕ, zero, suc, ◌+◌}
use Rattle.laws.proofs.Prelude.{◌-◌, ◌*◌, ◌/◌, ◌≤◌, ◌<◌, sub-zero, add-one, arith, eqb, leb, ltb, length, take, set, length-append, length-replicate}
use Rattle.laws.proofs.Prelude.{take_all, length-take-le, ltb-true, ltb-false, lt-ltb, le-ltb}
use lib.Seq.{take-append-le}
use Rattle.laws.{specs.Decoded.ok, specs.Decoded.no, proofs.Lists.flat_map_append}
use Rattle.wire.specs.Refusals as refusals
use Rattle.sheet.specs.{Sheet.Sheet, Sheet.accept, Judge.judge}
use Rattle.sheet_codec.proofs.Refusals.{judged_sheet, judged_refusal}
use Rattle.std.specs.Prelude.{Ok, Err}
use Rattle.std.specs.Result.{is_err}
use Rattle.std.proofs.lemmas.Bool.{false≢true}
use Rattle.wire.specs.{declared.refusals.Refusal.Refusal, Refusals.number_of}
use Rattle.report.specs.{ModuleInfo.ModuleInfo, Encode.encode}
use Rattle.report.specs.Answer.{Answer, zeros, accepted, refused_with, fitted, Outcome, outcome_as}
use Rattle.pragmas.specs.Pragmas.{types_at}
use Rattle.arguments.specs.Argument.{replaced_in}
use Rattle.dep_entries.specs.{Entries.Noted, code.Notes.all_noted}
use Rattle.dep_entries.specs.code.Notes as code
use Rattle.dep.specs.Collect.{text_of, numbers_of}
use Rattle.dep.{specs.Replaced.NumberOf, proofs.Counted.noted_first, proofs.Turns.turns_with, proofs.Turns.noted_turns, proofs.Replaced.number_right}
use Rattle.module_info.specs.Information.{module_info}
use Rattle.module_info.specs.Replaced.{noted, noted_in, counted, held, notes_with, NotesRight}

set_row : (l : List ℕ) (a b c d : ℕ) (m : List ℕ) → set (set (l ++ a ∷ b ∷ m) (length l) c) (length l + 1) d ≡ l ++ c ∷ d ∷ m
set_row [] a b c d m = refl
set_row (x ∷ l) a b c d m = rw (add-one (suc (length l))) (ap (x ∷◌) (rw (add-one (length l)) at (set_row l a b c d m)))

-- two numbers for each
rows_long : (l : List Noted) → length (numbers_of l) ≡ 2 * length l
unfolding flat_map
rows_long [] = refl
rows_long (e ∷ l) = omega (arith, rows_long l)

module _ (room : ℕ) where
  -- notes with so much room behind the first, the rows noted in them as far as they fit
  abbrev filled : List Noted → List ℕ
  filled l = counted room (numbers_of (take (room / 2) l))

  note_more : (l : List Noted) (e : Noted) → code.noted (filled l) e.start e.number ≡ filled (l ++ e ∷ [])
  unfolding code.noted flat_map
  note_more l e = by_room (ltb (length l) (room / 2)) refl
    where
      by_room : (b : Bool) → ltb (length l) (room / 2) ≡ b → code.noted (filled l) e.start e.number ≡ filled (l ++ e ∷ [])
      by_room true h =
          let some = ltb-true (length l) (room / 2) h in
          let rows = numbers_of l in
          let more = room - (2 * length l + 2) in
          let left : room - length rows ≡ suc (suc more) = omega (arith, rows_long l) in
          let long : length (rows ++ 0 ∷ 0 ∷ zeros more) ≡ room = simp (length-append, length-replicate) (omega (arith, rows_long l)) in
          let one : length (l ++ e ∷ []) ≡ length l + 1 = length-append l (e ∷ []) in
          let after : length (rows ++ e.start ∷ e.number ∷ []) ≡ length rows + 2 = length-append rows (e.start ∷ e.number ∷ []) in
          let fewer : room - (length rows + 2) ≡ more = omega (arith, rows_long l) in
          rw (
            take_all (room / 2) l (omega arith),
            left,
            long,
            lt-ltb (length rows + 1) room (omega (arith, rows_long l)),
            set_row rows 0 0 e.start e.number (zeros more),
            take_all (room / 2) (l ++ e ∷ []) (omega arith),
            flat_map_append (λ (e : Noted). e.start ∷ e.number ∷ []) l (e ∷ []),
            after,
            fewer,
            append_assoc rows (e.start ∷ e.number ∷ []) (zeros more),
          )
      by_room false h =
          let none = ltb-false (length l) (room / 2) h in
          let kept = numbers_of (take (room / 2) l) in
          let long : length (kept ++ zeros (room - length kept)) ≡ room =
          simp (length-append, length-replicate) (omega (arith, rows_long (take (room / 2) l), length-take-le (room / 2) l none)) in
          rw (
            long,
            le-ltb (length kept + 1) room (omega (arith, rows_long (take (room / 2) l), length-take-le (room / 2) l none)),
            take-append-le (room / 2) l (e ∷ []) none,
          )

  note_all_lem : (m l : List Noted) → all_noted (filled l) m ≡ filled (l ++ m)
  note_all_lem [] l = rw (append-nil l)
  note_all_lem (e ∷ m) l = rw (note_more l e) (note_all_lem m (l ++ e ∷ []) ∙ rw (append_assoc l (e ∷ []) m))

none_noted : (l : List Noted) → all_noted [] l ≡ []
unfolding code.noted
none_noted [] = refl
none_noted (e ∷ l) = none_noted l

pub all_held : (size : ℕ) (l : List Noted) → all_noted (zeros size) l ≡ held size l
unfolding held flat_map
all_held zero l = none_noted l
all_held (suc room) l = ap (λ notes. all_noted notes l) empty ∙ note_all_lem room l []
  where
    empty : zeros (suc room) ≡ filled room []
    empty = rw (take_all {A = Noted} (room / 2) [] (omega arith), sub-zero room)

-- with room for all of them there are two numbers for each, and zeros
pub held_whole : (size : ℕ) (l : List Noted) → 1 + 2 * length l ≤ size
    → held size l ≡ (2 * length l) ∷ (numbers_of l ++ zeros (size - (1 + 2 * length l)))
unfolding held
held_whole zero l h = absurd (omega arith)
held_whole (suc room) l h =
    let same : suc room - (1 + 2 * length l) ≡ room - 2 * length l = omega arith in
    rw (take_all (room / 2) l (omega arith), rows_long l, same)

-- where there are no rows, all is zero
pub none_held : (size : ℕ) → held size [] ≡ zeros size
none_held size = sym (all_held size [])

-- a refused report is longer than its buffer
pub refused_ten : (size : ℕ) (r : Refusal) (buffer : List ℕ) (m : ModuleInfo) → outcome_as (Err r) buffer ≡ fitted size (encode m)
    → number_of r ≡ refusals.buffer
unfolding fitted encode
refused_ten size r buffer m e = by_room (leb (length (encode m)) size) e
  where
    by_room : (b : Bool) → outcome_as (Err r) buffer ≡ cond b (accepted size (encode m)) (refused_with refusals.buffer size) → number_of r ≡ refusals.buffer
    by_room true e = let none : 0 ≡ length (encode m) = ap (λ (x : Answer). x.written) e in absurd (omega arith)
    by_room false e = ap (λ (x : Answer). x.number) e

-- the notes of a report that was accepted, and of one that was refused, whose notes were cleared
pub accepted_notes : (size : ℕ) (o : Outcome) (buffer : List ℕ) {notes : List ℕ} (l : List Noted) → is_err o ≡ false → notes ≡ all_noted (zeros size) l
    → notes ≡ notes_with size l (outcome_as o buffer).number
accepted_notes size (Ok n) buffer l accepts e = e ∙ all_held size l
accepted_notes size (Err r) buffer l accepts e = absurd (false≢true (sym accepts))

pub refused_notes : (size room : ℕ) (o : Outcome) (buffer : List ℕ) {notes : List ℕ} (l : List Noted) (m : ModuleInfo) → is_err o ≡ true
    → outcome_as o buffer ≡ fitted room (encode m) → notes ≡ zeros size → notes ≡ notes_with size l (outcome_as o buffer).number
refused_notes size room (Ok n) buffer l m refuses e cleared = absurd (false≢true refuses)
refused_notes size room (Err r) buffer l m refuses e cleared = rw (refused_ten room r buffer m e, none_held size) cleared

-- notes of nothing stay cleared
pub nothing_noted : (size : ℕ) {notes : List ℕ} (number : ℕ) → notes ≡ zeros size → notes ≡ notes_with size [] number
nothing_noted size {notes} number cleared = by_number (eqb number 0)
  where
    by_number : (b : Bool) → notes ≡ held size (cond b [] [])
    by_number true = cleared ∙ sym (none_held size)
    by_number false = cleared ∙ sym (none_held size)

-- what holds of the rows of every sheet
pub notes_right : {s : List ℕ} {size number : ℕ} {notes : List ℕ} → notes ≡ notes_with size (noted_in (judge s)) number → NotesRight s size number notes
unfolding module_info
notes_right answer = record {
  answer = answer;
  beside = λ t h. noted_first t.source (types_at t) t.root;
  rows = λ t h.
      turns_with
      (noted_turns t.source (types_at t) (λ v d. NumberOf v d (replaced_in (text_of v))) (λ v d e i. number_right t.source (types_at t) v e) t.root)
      (λ v i e h. record { start = h.start; number = rw h.number h.own });
}

module _ {s : List ℕ} (size number : ℕ) {notes : List ℕ} where
  pub empty_notes : s ≡ [] → notes ≡ zeros size → NotesRight s size number notes
  unfolding judge
  empty_notes e cleared = notes_right (rw e (nothing_noted size number cleared))

  pub refusal_notes : {r : ℕ} → 0 < length s → accept s ≡ no r → notes ≡ zeros size → NotesRight s size number notes
  refusal_notes some e cleared = notes_right (rw (judged_refusal s some e) (nothing_noted size number cleared))

  pub sheet_notes : {t : Sheet} → accept s ≡ ok t [] → notes ≡ notes_with size (noted t) number → NotesRight s size number notes
  sheet_notes e h = notes_right (rw (judged_sheet s e) h)
