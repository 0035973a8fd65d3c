-- Entries that are added, in the forms that the prover looks for.
use Rattle.laws.proofs.Prelude.{◌≡◌, sym, List, [], ◌∷◌, ◌++◌, append-nil}
use Rattle.dep_entries.specs.{declared.Items.Items, Entries.Noted}
use Rattle.dep_entries.specs.code.Written.{Collected, items_as, with_entries, Adds, KeepsItems}
use Rattle.dep_entries.proofs.Wrote.{entries_append, adds_keeps}

pub entries_cons : (w : Collected) (e : Noted) (l : List Noted) → with_entries w (e ∷ l) ≡ with_entries (with_entries w (e ∷ [])) l
entries_cons w e l = entries_append w (e ∷ []) l

pub entries_last : (l : List Noted) → l ++ [] ≡ l
entries_last l = append-nil l

-- the buffer and the notes are the same, and as long
pub adds_kept : (before after : Items) (l : List Noted) → Adds before after l → (with_entries (items_as before) l ≡ items_as after) × KeepsItems before after
adds_kept before after l h = (sym h, adds_keeps before after l h)
