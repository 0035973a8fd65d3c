-- Entries written list by list, and their rows noted.
use Rattle.laws.proofs.Prelude.{◌≡◌, refl, sym, ◌∙◌, List, [], ◌∷◌, ◌++◌, append-nil, flat_map, ℕ, length, ap}
use Rattle.laws.proofs.Lists.{flat_map_append}
use Rattle.report.specs.Buffer.{written_as, more, Wrote}
use Rattle.report.specs.Encode.{encode_dependency}
use Rattle.report.proofs.Buffers.{more_append, more_nil, wrote_keeps, keeps_same}
use Rattle.dep_entries.specs.declared.Items.{Items}
use Rattle.dep_entries.specs.Entries.{Noted}
use Rattle.dep_entries.specs.code.Notes.{noted, all_noted}
use Rattle.dep_entries.specs.code.Written.{Collected, items_as, with_entries, Adds, KeepsItems}
use Rattle.dep_entries.proofs.Noting.{noted_size}

-- the bytes of entries
abbrev encoded : List Noted → List ℕ
encoded = flat_map (λ e. encode_dependency e.entry)

noted_append : (notes : List ℕ) (l m : List Noted) → all_noted notes (l ++ m) ≡ all_noted (all_noted notes l) m
noted_append notes [] m = refl
noted_append notes (e ∷ l) m = noted_append (noted notes e.start e.number) l m

all_noted_size : (notes : List ℕ) (l : List Noted) → length (all_noted notes l) ≡ length notes
all_noted_size notes [] = refl
all_noted_size notes (e ∷ l) = all_noted_size (noted notes e.start e.number) l ∙ noted_size notes e.start e.number

pub entries_append : (w : Collected) (l m : List Noted) → with_entries w (l ++ m) ≡ with_entries (with_entries w l) m
unfolding with_entries
entries_append w l m =
    rw (flat_map_append (λ e. encode_dependency e.entry) l m, more_append w.written (encoded l) (encoded m), noted_append w.notes l m)

pub entries_nil : (i : Items) → with_entries (items_as i) [] ≡ items_as i
unfolding items_as with_entries flat_map
entries_nil i = λ k. record { writer = i.writer.ghost_name; written = more_nil i.writer.now k; loan = i.notes.ghost_name; notes = i.notes.now }

pub adds_none : (i : Items) → Adds i i []
adds_none i = sym (entries_nil i)

module _ (before after : Items) where
  -- an entry is written, and its row noted
  pub adds_one : (e : Noted) → after.writer.ghost_name ≡ before.writer.ghost_name → Wrote before.writer.now after.writer.now (encode_dependency e.entry)
      → after.notes.ghost_name ≡ before.notes.ghost_name →
      after.notes.now ≡ noted before.notes.now e.start e.number → Adds before after (e ∷ [])
  unfolding items_as with_entries flat_map
  adds_one e lent written loan notes =
      let one = written ∙ ap (more (written_as before.writer.now)) (sym (append-nil (encode_dependency e.entry))) in
      λ k. record { writer = lent k; written = one k; loan = loan k; notes = notes k }

  pub adds_keeps : (l : List Noted) → Adds before after l → KeepsItems before after
  unfolding items_as with_entries
  adds_keeps l h = record {
    lent = λ k. (h k).writer;
    writer = wrote_keeps before.writer.now after.writer.now (encoded l) (λ k. (h k).written);
    loan = λ k. (h k).loan;
    size = (λ k. length (h k).notes) ∙ all_noted_size before.notes.now l;
  }

pub items_same : (i : Items) → KeepsItems i i
items_same i = record { lent = refl; writer = keeps_same i.writer.now; loan = refl; size = refl }
