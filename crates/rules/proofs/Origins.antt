-- Origins and entries stand one to one, and how the origins are written.
use Rattle.laws.proofs.Prelude.{◌≡◌, refl, sym, ap, ◌∙◌, true, List, [], ◌∷◌, map, flat_map, ℕ, zero, suc, ◌+◌, ◌*◌, ◌≤◌, ◌<◌, arith}
use Rattle.laws.proofs.Prelude.{◌++◌, add-one, length, take, drop, get_or, drop_of_length-le, drop-cons}
use lib.ListN.{length-map}
use Rattle.laws.{specs.Aligned.Aligned, specs.Codec.All, specs.Decoded.ok, proofs.Aligned.aligned_append, proofs.Lists.flat_map_append}
use Rattle.text.specs.{declared.utf8.Encoding.TheVariants.Utf8, Utf8.formed}
use Rattle.sheet.specs.code.Commented.{Commented}
use Rattle.sheet.specs.{Fit.Fit, Limits.entry_limit, Walked.entries, Sheet.Sheet, Sheet.accept}
use Rattle.sheet_codec.proofs.EntryBytes.{few_entries}
use Rattle.report.{specs.Origin.encode_origin, specs.declared.writer.Writer.Writer, specs.Buffer.Written, specs.Buffer.written_as, specs.Buffer.more}
use Rattle.report.{proofs.Buffers.more_append, proofs.Buffers.more_nil}
use Rattle.pragmas.specs.Asks.{self_types_rule, jsx_import_source_rule, jsx_import_source_types_rule}
use Rattle.pragmas.specs.Pragmas.{head_comments, end_comments, types_at}
use Rattle.pragmas.specs.Texts.{types_of}
use Rattle.pragmas.specs.Origins.{types_origins, head_origins}
use Rattle.pragmas.proofs.GivenFrom.{types_from_lem, references_from, first_from, source_map_from}
use Rattle.jsdoc_list.{proofs.Origins.jsdoc_origins_kept}
use Rattle.dep_entries.specs.Entries.{Noted}
use Rattle.std.specs.Simd.{first_chunks}
use Rattle.dep.{specs.Collect.starts_of, specs.Collect.numbers_of, proofs.Counted.counted, proofs.Counted.noted_first, proofs.Turns.types_at_start}
use Rattle.module_info.specs.{Information.module_info, Replaced.noted, Replaced.notes_with}
use Rattle.rules.specs.code.{Pieces.comment_origins, Pieces.types_bytes, Rows.starts_in}
use Rattle.rules.specs.Rules.{types_in, entries_of, OriginFor, origins_in, rules_of}
use Rattle.rules.specs.Rules as entry
use Rattle.module_info.proofs.{Notes.held_whole, Accepted.meets}

-- a relation to what a function gives
aligned_of : {A B C : Type 0} {P : B → C → Type 0} (f : A → B) {l : List A} {m : List C} → Aligned (λ a. P (f a)) l m → Aligned P (map f l) m
aligned_of f Aligned.none = Aligned.none
aligned_of f (Aligned.and p h) = Aligned.and p (aligned_of f h)

module _ (t : Sheet) where
  -- the types of dependencies, by where their nodes start
  types_aligned : (l : List Noted) → All (λ e. types_of e.entry ≡ types_at t e.start) l
      → Aligned (OriginFor t) (flat_map types_in (map (λ e. e.entry) l)) (flat_map (types_origins t.source t.comments t.groups) (starts_of l))
  unfolding flat_map
  types_aligned [] h = Aligned.none
  types_aligned (e ∷ l) (h, hs) =
      let first : Aligned (OriginFor t) (types_in e.entry) (types_origins t.source t.comments t.groups e.start) =
      rw h (aligned_of entry.types (types_from_lem t.source t.comments t.groups e.start)) in
      aligned_append first (types_aligned l hs)

  pub rules_right : formed Utf8 0 t.source ≡ true → Fit t.source t.comments → Aligned (OriginFor t) (entries_of (module_info t)) (origins_in t)
  unfolding module_info entries_of origins_in head_origins
  rules_right utf8 fit =
      let typed = rw (noted_first t.source (types_at t) t.root) at (types_aligned (noted t) (types_at_start t.source (types_at t) t.root)) in
      let head = head_comments t in
      aligned_append typed
      (aligned_append
      (aligned_append (aligned_of entry.reference (references_from t.source head))
      (aligned_append (aligned_of entry.self_types (first_from t.source head self_types_rule t.media))
      (aligned_append (aligned_of entry.jsx_import_source (first_from t.source head jsx_import_source_rule t.media))
      (aligned_of entry.jsx_import_source_types (first_from t.source head jsx_import_source_types_rule t.media)))))
      (aligned_append (aligned_of entry.jsdoc (jsdoc_origins_kept t.media utf8 fit))
      (aligned_of entry.source_map_url (source_map_from t.source (end_comments t) t.media))))

-- the origins in the pieces that functions write
pub rules_written : (t : Sheet) (u : Written) {v w : Written} {starts : List ℕ} → starts ≡ starts_of (noted t)
    → v ≡ more u (flat_map encode_origin (flat_map (types_origins t.source t.comments t.groups) starts))
    → w ≡ more v (flat_map encode_origin (comment_origins t)) → w ≡ more u (rules_of t)
unfolding rules_of origins_in comment_origins
rules_written t u are types rest = rw (rest, types, are) (simp (flat_map_append, more_append))

-- ---- the starts in the rows of the notes

module _ (c : Commented) (rows : List (List ℕ)) (i : ℕ) where
  pub types_next : (u : Written) (d : List ℕ) {v : Written} → i < length rows
      → v ≡ more u (flat_map encode_origin (types_origins c.source c.comments c.groups (get_or (get_or rows i d) 0 0)))
      → more u (types_bytes c (starts_in (drop i rows))) ≡ more v (types_bytes c (starts_in (drop (i + 1) rows)))
  unfolding flat_map
  types_next u d h e = rw (add-one, drop-cons rows i d h, e, flat_map_append, more_append)

  pub types_end : (w : Writer) → length rows ≤ i → more (written_as w) (types_bytes c (starts_in (drop i rows))) ≡ written_as w
  unfolding flat_map
  types_end w h = rw (drop_of_length-le rows h) (more_nil w)

rows_start : (l : List Noted) (rest : List ℕ) (k : ℕ) → length l ≤ k → starts_in (take (length l) (first_chunks 2 k (numbers_of l ++ rest))) ≡ starts_of l
unfolding flat_map
rows_start [] rest k h = refl
rows_start (e ∷ l) rest zero h = absurd (omega arith)
rows_start (e ∷ l) rest (suc k) h = ap (e.start ∷◌) (rows_start l rest k (omega arith))

-- each dependency is noted
noted_many : (t : Sheet) → length (noted t) ≡ entries t.root
noted_many t =
    sym (length-map (noted t) (λ (e : Noted). e.entry)) ∙ ap length (noted_first t.source (types_at t) t.root) ∙ counted t.source (types_at t) t.root

-- there is room for the rows of all dependencies of an accepted sheet
pub few_rows : (s : List ℕ) {t : Sheet} → accept s ≡ ok t [] → entries t.root ≤ entry_limit
few_rows s e = few_entries (meets s e)

-- and the starts in them are theirs
pub starts_held : (t : Sheet) {notes tail : List ℕ} {rows : List (List ℕ)} (k n : ℕ) → rows ≡ first_chunks 2 k tail → tail ≡ drop 1 notes
    → entries t.root ≡ n → n ≤ k → 1 + 2 * n ≤ length notes → notes ≡ notes_with (length notes) (noted t) 0 → starts_in (take n rows) ≡ starts_of (noted t)
starts_held t {notes} k n chunks behind count few room held =
    let as_many = noted_many t ∙ count in
    let whole = held ∙ held_whole (length notes) (noted t) (omega (arith, as_many, room)) in
    rw (chunks, behind, whole, ← as_many) (rows_start (noted t) _ k (omega (arith, as_many, few)))
