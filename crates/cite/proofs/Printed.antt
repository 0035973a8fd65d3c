-- What the report function answers is what the citation asks for.
use Rattle.laws.proofs.Prelude.{◌≡◌, refl, sym, ap, ◌∙◌, Bool, true, false, List, [], ◌++◌, flat_map, ℕ, ◌+◌, ◌-◌, ◌*◌, ◌≤◌, arith, leb, length, take, drop}
use Rattle.laws.proofs.Prelude.{length-drop, take-append_seam, take_all, leb-true}
use lib.ListN.{length-map}
use Rattle.wire.specs.Refusals.{of_sheets, one_of, number_of}
use Rattle.wire.specs.Refusals as refusals
use Rattle.sheet.specs.{Sheet.Sheet, Judge.judge}
use Rattle.sheet_codec.{specs.SheetOf.SheetOf, proofs.Sheets.accepts_exactly}
use Rattle.sheet_codec.proofs.Refusals.{apart, Decision, decided, judged_sheet, judged_refusal}
use Rattle.report.specs.{ModuleInfo.ModuleInfo, Encode.encode, Valid.Valid}
use Rattle.report.specs.Answer.{Answer, Outcome, zeros, accepted, refused_with, fitted}
use Rattle.std.specs.Prelude.{Ok, Err}
use Rattle.wire.specs.declared.refusals.Refusal.{Refusal}
use Rattle.module_info.specs.Information.{module_info, default_info, answer_of}
use Rattle.dep_entries.specs.Entries.{Noted}
use Rattle.dep.specs.Collect.{numbers_of}
use Rattle.module_info.specs.Replaced.{noted_in, held, NotesRight}
use Rattle.module_info.specs.Replaced as Replaced
use Rattle.module_info.{specs.Demands.Demands, proofs.Notes.held_whole}
use Rattle.citation.specs.Citation.{lines, citation, refusal}
use Rattle.citation.proofs.{Printing.citation_padded, Few.few_dependencies}
use Rattle.cite.specs.Cited.{report_room, note_room, line_room, cited_in, cited}

-- a report has bytes
some_bytes : (m : ModuleInfo) → 0 ≡ length (encode m) → ⊥
unfolding encode
some_bytes m e = absurd (omega arith)

-- the source is that of the sheet that the bytes are, if they are one
abbrev Holds : List ℕ → List ℕ → Type 0
Holds s source = (t : Sheet) → SheetOf s t → source ≡ t.source

-- a report that was answered: it is the encoding of information that can be read back, and the lines are those of its citation, with the numbers
-- that the notes hold
pub record Reported (s : List ℕ) (n : ℕ) (buffer notes : List ℕ) : Type 0 where
  pub info : ModuleInfo
  pub within : n ≤ report_room
  pub room : 4 * length (take n buffer) ≤ line_room
  pub valid : Valid info
  pub bytes : encode info ≡ take n buffer
  pub lines : (source : List ℕ) → Holds s source → cited s ≡ citation source (take (length notes - 1) (drop 1 notes)) info

-- the lines of a report that was answered are those that are cited
pub reported_lines : {s source buffer notes : List ℕ} {n room : ℕ} → Holds s source → Reported s n buffer notes → length notes ≡ room
    → (count : ℕ) (lines : List ℕ)
    → ((m : ModuleInfo) → Valid m → encode m ≡ take n buffer → (count ≡ length (citation source (take (room - 1) (drop 1 notes)) m))
    × (take count lines ≡ citation source (take (room - 1) (drop 1 notes)) m))
    → take count lines ≡ cited s
reported_lines source found long count lines written = rw (found.lines _ source, long) (written found.info found.valid found.bytes).1

-- information of which the report is answered and cited
record Asked (s : List ℕ) : Type 0 where
  info : ModuleInfo
  noted : List Noted
  numbered : noted_in (judge s) ≡ noted
  beside : length noted ≡ length info.dependencies
  answer : answer_of s report_room ≡ fitted report_room (encode info)
  lines : (source : List ℕ) → Holds s source → cited s ≡ cited_in source (numbers_of noted) info
  valid : Valid info

-- there is such information, or there is a refusal of a sheet
data Question (s : List ℕ) : Type 0 where
  asked : Asked s → Question s
  refused : (r : ℕ) → one_of of_sheets r ≡ true → answer_of s report_room ≡ refused_with r report_room → cited s ≡ refusal r → Question s

module _ {s buffer notes : List ℕ} where
  question : {outcome : Outcome} {number : ℕ} → Demands s report_room outcome buffer → NotesRight s note_room number notes → Question s
  unfolding answer_of cited judge citation lines flat_map
  question d noted = by (decided s)
    where
      by : Decision s → Question s
      by (Decision.empty e) = asked
          (record { info = default_info; noted = []; numbered = rw e; beside = refl; answer = rw e; lines = λ source h. rw e; valid = (d.empty e).report.fits })
      by (Decision.accepted t e) =
          let is = (accepts_exactly s t).0 e in
          asked (record {
            info = module_info t;
            noted = Replaced.noted t;
            numbered = ap noted_in (judged_sheet s e);
            beside = sym (length-map (Replaced.noted t) (λ (e : Noted). e.entry)) ∙ ap length (noted.beside t is);
            answer = rw (judged_sheet s e);
            lines = λ source h. rw (judged_sheet s e, h t is);
            valid = (d.report t is).fits;
          })
      by (Decision.refused r among some e) = refused r among (rw (judged_refusal s some e)) (rw (judged_refusal s some e))

  pub reported : {n : ℕ} → Demands s report_room (Ok n) buffer → NotesRight s note_room 0 notes → Reported s n buffer notes
  unfolding one_of fitted
  reported {n} d noted = by (question d noted)
    where
      by_room : (a : Asked s) (b : Bool) → leb (length (encode a.info)) report_room ≡ b → Reported s n buffer notes
      by_room a true h =
          let bytes = encode a.info in
          let answer : record { number = 0; written = n; buffer = buffer } ≡ accepted report_room bytes = rw h at (d.answer ∙ a.answer) in
          let long : n ≡ length bytes = ap (λ (x : Answer). x.written) answer in
          let begun : buffer ≡ bytes ++ zeros (report_room - length bytes) = ap (λ (x : Answer). x.buffer) answer in
          let begins : bytes ≡ take n buffer = rw (long, begun) (sym (take-append_seam bytes _)) in
          let room = leb-true (length bytes) report_room h in
          let numbers = numbers_of a.noted in
          let free = note_room - (1 + 2 * length a.noted) in
          let few : 1 + 2 * length a.noted ≤ note_room = omega (arith, a.beside, few_dependencies a.info) in
          let hold : take (length notes - 1) (drop 1 notes) ≡ numbers ++ zeros free =
          take_all (length notes - 1) (drop 1 notes) (omega (arith, length-drop 1 notes))
          ∙ ap (drop 1) (noted.answer ∙ ap (held note_room) a.numbered ∙ held_whole note_room a.noted few) in
          record {
            info = a.info;
            within = omega (arith, long, room);
            room = rw (← begins) (omega arith);
            valid = a.valid;
            bytes = begins;
            lines = λ source o. rw (a.lines source o, h) (sym (ap (λ l. citation source l a.info) hold ∙ citation_padded source numbers free a.info));
          }
      by_room a false h =
          let none : ◌≡◌ {A = ℕ} 0 refusals.buffer = ap (λ (x : Answer). x.number) (rw h at (d.answer ∙ a.answer)) in
          absurd (omega arith)

      by : Question s → Reported s n buffer notes
      by (asked a) = by_room a (leb (length (encode a.info)) report_room) refl
      by (refused r among e same) =
          let none : 0 ≡ r = ap (λ (x : Answer). x.number) (d.answer ∙ e) in
          absurd (apart of_sheets among (sym none) refl)

  -- a refusal that was answered
  pub refused_lines : {r : Refusal} {number : ℕ} (source : List ℕ) → Holds s source → Demands s report_room (Err r) buffer
      → NotesRight s note_room number notes → cited s ≡ refusal (number_of r)
  unfolding fitted
  refused_lines {r} source o d noted = by (question d noted)
    where
      by_room : (a : Asked s) (b : Bool) → leb (length (encode a.info)) report_room ≡ b → cited s ≡ refusal (number_of r)
      by_room a true h =
          let none : 0 ≡ length (encode a.info) = ap (λ (x : Answer). x.written) (rw h at (d.answer ∙ a.answer)) in
          absurd (some_bytes a.info none)
      by_room a false h =
          let ten : number_of r ≡ refusals.buffer = ap (λ (x : Answer). x.number) (rw h at (d.answer ∙ a.answer)) in
          rw (a.lines source o, h, ten)

      by : Question s → cited s ≡ refusal (number_of r)
      by (asked a) = by_room a (leb (length (encode a.info)) report_room) refl
      by (refused q among e lines) =
          let same : number_of r ≡ q = ap (λ (x : Answer). x.number) (d.answer ∙ e) in
          rw (lines, same)
