-- What is demanded of an answer: the report of an accepted sheet, a refusal, or the default report.
use Rattle.laws.proofs.Prelude.{◌≡◌, refl, sym, ap, ◌∙◌, List, [], ◌∷◌, ℕ, ◌<◌, arith, ltb, length, ltb-true}
use Rattle.laws.specs.Decoded.{ok, no}
use Rattle.laws.{specs.Codec.All, specs.Codec.IfThere, proofs.Decoding.refused, proofs.Lists.of_members}
use Rattle.text.{specs.Position.characters, proofs.Columns.counted}
use Rattle.wire.specs.Refusals.{of_sheets, one_of}
use Rattle.sheet.{specs.Limits.depth_limit, specs.Sheet.Sheet, specs.Sheet.accept, specs.Judge.judge, proofs.Reaches.walk_right}
use Rattle.sheet.specs.Walk.{Visit, start_of, visits}
use Rattle.sheet_codec.{specs.SheetOf.SheetOf, proofs.Sheets.accepts_exactly, proofs.Quotations.strings_quoted}
use Rattle.sheet_codec.proofs.Refusals.{passes, Decision, decided, cut_off_lem, judged_sheet, judged_refusal}
use Rattle.report.specs.{ModuleInfo.DependencyDescriptor, Encode.encode}
use Rattle.report.specs.Answer.{Outcome, outcome_as, refused_with, fitted}
use Rattle.pragmas.{specs.Pragmas.types_at, specs.Present.Present, proofs.Present.present, proofs.Present.types_present}
use Rattle.pragmas.specs.Texts.{TypesShown, types_of, Texts}
use Rattle.pragmas.proofs.Texts.{types_shown, texts}
use Rattle.jsdoc_list.{specs.Demand.OnlyRight, proofs.ImportsRight.only_right}
use Rattle.dep.{specs.Collect.entry_of, proofs.EntryAttributes.attributes_right}
use Rattle.dep.specs.InTurn.{InTurn, Worded, EntryOf}
use Rattle.dep.proofs.Turns.{turn_member, turns_with, collect_turns}
use Rattle.module_info.specs.Information.{module_info, default_info, answer_of}
use Rattle.module_info.specs.{Empty.EmptyRight, Demands.OfAccepted, Demands.Demands}
use Rattle.module_info.proofs.Accepted.{same_sheet, meets, within, formed_source, fit}
use Rattle.module_info.proofs.{Numbers.number_right, Empty.empty_right, Fine.Fine, Reports.entries_fine, Reports.report_right, Revised.unchanged}

-- a dependency of a visit
record Known (t : Sheet) (v : Visit) (d : DependencyDescriptor) : Type 0 where
  entry : entry_of t.source (types_at t) v ≡ d ∷ []
  types : types_of d ≡ types_at t (start_of v)

pragmas_present : (t : Sheet) → Present t (module_info t)
unfolding module_info
pragmas_present t = present t (module_info t) refl refl refl refl refl

module _ {s : List ℕ} {t : Sheet} (e : accept s ≡ ok t []) where
  pub demanded : {size : ℕ} {outcome : Outcome} {buffer : List ℕ}
      → outcome_as outcome buffer ≡ fitted size (encode (module_info t)) → Demands s size outcome buffer
  unfolding answer_of module_info
  demanded {size} {outcome} {buffer} report = record {
    answer = answer;
    complete = shown (λ t. _) report;
    empty = λ f. absurd (refused (sym cut_off_lem ∙ (rw f at e)));
    number = rw answer (number_right s size);
    dependencies = shown (λ t. _) in_turn;
    walk = λ t h. walk_right t.root;
    strings = shown (λ t. _) (strings_quoted t.source depth_limit t.root (within s e).root);
    jsdoc = shown (λ t. _) jsdoc_right;
    revisions = λ t h r u i k revision. unchanged revision h.encodes.within.fields i.encodes.within.fields;
    pragmas = shown (λ t. _) (pragmas_present t);
    texts = shown (λ t. _) sheet_texts;
    columns = shown (λ t. _) (counted characters t.source (within s e).source.1);
    report = shown (λ t. _) (report_right t (meets s e).encodes.within types_there fine (pragmas_present t) sheet_texts jsdoc_right.right);
  }
    where
      answer : outcome_as outcome buffer ≡ answer_of s size
      answer = rw (judged_sheet s e) report

      types_there : (start : ℕ) → IfThere (TypesShown t) (types_at t start)
      types_there = types_shown t (formed_source s e) (fit s e)

      -- each entry with what the limits say of it
      known_turns : InTurn (λ v d. Known t v d × Fine (Worded t.source v) d) (visits t.root) (module_info t).dependencies
      known_turns = entries_fine t (meets s e).encodes.within types_there (λ v d k. k.entry)
          (collect_turns t.source (types_at t) (Known t) (λ v d e i. record { entry = e; types = i }) t.root)

      fine : InTurn (λ v d. Fine (Worded t.source v) d) (visits t.root) (module_info t).dependencies
      fine = turns_with known_turns (λ v i d p. p.1)

      in_turn : InTurn (EntryOf t) (visits t.root) (module_info t).dependencies
      in_turn =
          turns_with known_turns λ v i d (k, f).
          record {
            entry = k.entry;
            types = rw k.types (types_present t (start_of v));
            attributes = attributes_right t.source (types_at t) v k.entry;
            worded = f.worded;
          }

      typed : All (λ d. IfThere (TypesShown t) (types_of d)) (module_info t).dependencies
      typed =
          of_members _ _ (λ d m.
          let (v, p) = turn_member known_turns m in
          rw p.0.types (types_there (start_of v)))

      sheet_texts : Texts t (module_info t)
      sheet_texts = texts t (formed_source s e) (fit s e) (module_info t) (pragmas_present t) typed

      jsdoc_right : OnlyRight t.media t.source t.comments (module_info t).jsdoc_imports
      jsdoc_right = only_right (fit s e) (formed_source s e) t.media

      shown : (P : Sheet → Type 0) → P t → OfAccepted s P
      shown P h u f = rw (same_sheet ((accepts_exactly s u).1 f) e) h

-- a refusal fits a byte
pub refusal_small : (s : List ℕ) {r : ℕ} → 0 < length s → accept s ≡ no r → r < 256
unfolding one_of
refusal_small s {r} some e = by (decided s)
  where
    by : Decision s → r < 256
    by (Decision.empty f) = absurd (omega (arith, some, ap length f))
    by (Decision.accepted t f) = absurd (refused (sym e ∙ f))
    by (Decision.refused q among _ f) =
        let g : no q ≡ no r = sym f ∙ e in
        let same : q ≡ r = cc in
        rw (← same) (ltb-true q 256 (passes (λ n. ltb n 256) of_sheets refl q among))

-- bytes that are no sheet: their answer and its number, and nothing is asked of them beyond
module _ (s : List ℕ) {size : ℕ} {outcome : Outcome} {buffer : List ℕ} where
  no_sheet : ((t : Sheet) → SheetOf s t → ⊥) → outcome_as outcome buffer ≡ answer_of s size → (s ≡ [] → EmptyRight size (outcome_as outcome buffer))
      → Demands s size outcome buffer
  no_sheet none answer empty = record {
    answer = answer;
    complete = λ t h. never t h;
    empty = empty;
    number = rw answer (number_right s size);
    dependencies = λ t h. never t h;
    walk = λ t h. never t h;
    strings = λ t h. never t h;
    jsdoc = λ t h. never t h;
    revisions = λ t h. never t h;
    pragmas = λ t h. never t h;
    texts = λ t h. never t h;
    columns = λ t h. never t h;
    report = λ t h. never t h;
  }
    where
      never : {P : Type 0} (t : Sheet) → SheetOf s t → P
      never t h = absurd (none t h)

  pub refusal_demanded : {r : ℕ} → 0 < length s → accept s ≡ no r → outcome_as outcome buffer ≡ refused_with r size → Demands s size outcome buffer
  unfolding answer_of
  refusal_demanded some e refusal =
      no_sheet (λ t h. refused (sym e ∙ (accepts_exactly s t).1 h)) (rw (judged_refusal s some e) refusal) (λ f. absurd (omega (arith, some, ap length f)))

  pub empty_demanded : s ≡ [] → outcome_as outcome buffer ≡ fitted size (encode default_info) → Demands s size outcome buffer
  unfolding answer_of judge
  empty_demanded e default = no_sheet (λ t h. refused (sym cut_off_lem ∙ (rw e at ((accepts_exactly s t).1 h)))) (rw e default) (λ f. empty_right default)
