-- The turns of the loops over the ticks, and the bytes that are written.
use Rattle.laws.proofs.Prelude.{◌≡◌, refl, ap, sym, ◌∙◌, true, false, List, [], ◌∷◌, ◌++◌, append-nil, flat_map, ℕ, suc, ◌+◌, ◌-◌, ◌≤◌, ◌<◌, add-one, arith}
use Rattle.laws.proofs.Prelude.{length, drop, get_or, drop-cons, drop_of_length-le}
use Rattle.text.specs.{declared.utf8.Encoding.TheVariants.Utf8, Utf8.formed, code.Places.Passing}
use Rattle.laws.proofs.Onward.{carried_to}
use Rattle.wire.specs.{Fields.value_of, Number.encode_number}
use Rattle.sheet.specs.{declared.comments.Comment.Comment, Fit.Fit, declared.names.MediaType.MediaType, Media.is_java_script}
use Rattle.report.specs.Encode.{encode_list, encode_jsdoc}
use Rattle.analysis.specs.Mode.{mode_number}
use Rattle.report.{specs.Decode.modes, proofs.Modes.mode_numbers}
use Rattle.pragmas.{specs.code.Views.encode_any, proofs.Turns.listed_each}
use Rattle.jsdoc_list.specs.Imports.{ticks_of, count_of, import_at, imports_from, jsdoc_imports}
use Rattle.jsdoc_list.proofs.{Entries.count_all, ImportsRight.standings}
use Rattle.std.proofs.lemmas.Slice.{between_to_end}
use Rattle.jsdoc.proofs.Texts.{quote_left}
use Rattle.report.proofs.Buffers.{wrote_none, more_append, more_cons}

-- the ticks from place q on: the first of them, and the others
pub first_tick : (ticks : List ℕ) (q : ℕ) → q < length ticks → drop q ticks ≡ get_or ticks q 0 ∷ drop (q + 1) ticks
first_tick ticks q h = rw (add-one q) (drop-cons ticks q 0 h)

pub first_mode_lem : (n : ℕ) → (n ≡ 0 → ⊥) → n ≡ suc (n - 1)
first_mode_lem n h = omega arith

module _ (source ticks : List ℕ) (q : ℕ) (h : q < length ticks) where
  pub unticked_next : get_or ticks q 0 ≡ 0 → imports_from source q (drop q ticks) ≡ imports_from source (q + 1) (drop (q + 1) ticks)
  unfolding imports_from
  unticked_next e = rw (first_tick ticks q h, e, add-one q)

  pub ticked_next : (get_or ticks q 0 ≡ 0 → ⊥)
      → flat_map encode_jsdoc (imports_from source q (drop q ticks))
      ≡ encode_any encode_jsdoc (import_at source q (value_of modes (get_or ticks q 0 - 1)))
      ++ flat_map encode_jsdoc (imports_from source (q + 1) (drop (q + 1) ticks))
  unfolding imports_from
  ticked_next e =
      let n : get_or ticks q 0 ≡ suc (get_or ticks q 0 - 1) = first_mode_lem (get_or ticks q 0) e in
      ap (λ (l : List ℕ). flat_map encode_jsdoc (imports_from source q l)) (first_tick ticks q h ∙ ap (◌∷ drop (q + 1) ticks) n)
      ∙ rw (← add-one q) (listed_each encode_jsdoc (import_at source q (value_of modes (get_or ticks q 0 - 1)))
      (imports_from source (q + 1) (drop (q + 1) ticks)))

module _ (ticks : List ℕ) (q : ℕ) (h : q < length ticks) where
  pub count_next : get_or ticks q 0 ≡ 0 → count_of (drop q ticks) ≡ count_of (drop (q + 1) ticks)
  unfolding count_of
  count_next e = rw (first_tick ticks q h, e)

  pub count_one_lem : (get_or ticks q 0 ≡ 0 → ⊥) → count_of (drop q ticks) ≡ count_of (drop (q + 1) ticks) + 1
  unfolding count_of
  count_one_lem e =
      let n : get_or ticks q 0 ≡ suc (get_or ticks q 0 - 1) = first_mode_lem (get_or ticks q 0) e in
      ap count_of (first_tick ticks q h ∙ ap (◌∷ drop (q + 1) ticks) n) ∙ sym (add-one (count_of (drop (q + 1) ticks)))

-- none from the end on
module _ (ticks : List ℕ) (q : ℕ) (h : length ticks ≤ q) where
  pub count_end : count_of (drop q ticks) ≡ 0
  unfolding count_of
  count_end = rw (drop_of_length-le ticks h)

  pub imports_end : (source : List ℕ) → flat_map encode_jsdoc (imports_from source q (drop q ticks)) ≡ []
  unfolding imports_from flat_map
  imports_end source = rw (drop_of_length-le ticks h)

-- places without a tick are passed
module _ (ticks : List ℕ) (q r : ℕ) (p : Passing (λ k. get_or ticks k 0 ≡ 0) q (length ticks) r) where
  pub count_skip : count_of (drop q ticks) ≡ count_of (drop r ticks)
  count_skip =
      carried_to (λ k. count_of (drop q ticks) ≡ count_of (drop k ticks)) q r p.from refl (λ k g n e. e ∙ count_next ticks k (omega arith) (p.each k g n))

  pub unticked_skip : (source : List ℕ) → imports_from source q (drop q ticks) ≡ imports_from source r (drop r ticks)
  unticked_skip source =
      carried_to (λ k. imports_from source q (drop q ticks) ≡ imports_from source k (drop k ticks)) q r p.from refl
      (λ k g n e. e ∙ unticked_next source ticks k (omega arith) (p.each k g n))

-- the number of the mode of a number
pub mode_byte : (number : ℕ) → number ≤ 2 → mode_number (value_of modes number) ≡ number
mode_byte number small = mode_numbers.forth number (omega arith)

-- at each tick an import is read
pub all_read_lem : {source : List ℕ} {cs : List Comment} → Fit source cs → formed Utf8 0 source ≡ true
    → length (imports_from source 0 (ticks_of source cs)) ≡ count_of (ticks_of source cs)
all_read_lem {source} {cs} fit f = count_all source (ticks_of source cs) 0 (standings fit f)

-- the bytes of all imports
module _ (source : List ℕ) (cs : List Comment) (media : MediaType) where
  pub encode_none : is_java_script media ≡ false → encode_list encode_jsdoc (jsdoc_imports media source cs) ≡ encode_number 0
  unfolding jsdoc_imports encode_list flat_map
  encode_none h = rw h (append-nil (encode_number 0))

  pub encode_all : is_java_script media ≡ true → length (imports_from source 0 (ticks_of source cs)) ≡ count_of (ticks_of source cs)
      → encode_list encode_jsdoc (jsdoc_imports media source cs)
      ≡ encode_number (count_of (ticks_of source cs)) ++ flat_map encode_jsdoc (imports_from source 0 (ticks_of source cs))
  unfolding jsdoc_imports encode_list
  encode_all h e = rw (h, e)

-- a place without a tick, places that are skipped, a tick, and the end
pub ruleset imports_turned = (unticked_next, unticked_skip, ticked_next, imports_end)

-- bytes that are put, the mode of a number, and the quote at a place
pub ruleset import_read = (wrote_none, more_append, more_cons, between_to_end, mode_byte, quote_left)
