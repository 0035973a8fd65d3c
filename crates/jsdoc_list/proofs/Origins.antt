-- Each JSDoc import of a sheet has its origin beside it.
use Rattle.std.specs.Prelude.{Some, None}
use Rattle.laws.proofs.Prelude.{◌≡◌, refl, sym, ◌∙◌, Bool, true, false, cond, ◌⊎◌, inl, inr, List, [], ◌∷◌, ◌++◌, append-nil, flat_map, Option, ℕ, zero, suc}
use Rattle.laws.proofs.Prelude.{◌+◌, ◌≤◌, ◌<◌, zero-le, suc-le-suc, zero-add, add-zero, arith, length, take, drop, get_or, replicate, length-replicate}
use Rattle.laws.proofs.Prelude.{length-take-le}
use native.Mathlib.Nat.{add-suc, suc-add}
use Rattle.laws.{specs.Aligned.Aligned, proofs.Aligned.aligned_map, proofs.Aligned.aligned_append}
use Rattle.text.specs.{declared.utf8.Encoding.TheVariants.Utf8, Utf8.formed}
use Rattle.wire.specs.Fields.{value_of}
use Rattle.analysis.specs.Mode.{Mode, mode_number}
use Rattle.jsdoc.specs.Grammar.{Bytes, Reading, From}
use Rattle.jsdoc.{specs.Listing.listing, specs.Origins.openers, proofs.Listing.listing_ticks, proofs.Openers.origins_first, proofs.ReadingPlace.head_at}
use Rattle.sheet.specs.{declared.comments.Comment.Comment, declared.names.MediaType.MediaType, Fit.Placed, Fit.Fit, Lookups.body_span, Lookups.body}
use Rattle.sheet.{specs.Media.is_java_script, proofs.Bodies.BodyWithin, proofs.Bodies.placed_body}
use Rattle.report.{specs.Decode.modes, specs.ModuleInfo.JsDocImportInfo, specs.Origin.Origin, proofs.Modes.mode_numbers}
use Rattle.pragmas.specs.Readings.{listed}
use Rattle.jsdoc_list.specs.Imports.{is_star_opened, ticked_by, ticked_by_all, ticks_of, import_at, imports_from, jsdoc_imports}
use Rattle.jsdoc_list.specs.{Demand.StarOpened, ByComment.given_by}
use Rattle.jsdoc_list.specs.Origins.{rule_at, opener_at, openers_from, origins_of, jsdoc_origins, reading_by, JsDocFrom}
use Rattle.jsdoc_list.proofs.{StarOpened.opened_sound, Ticking.fit_tail, Quotes.reading_stands, ByComment.by_comment}

-- ---- the imports of one comment are those of the ticks of its body

listed_append : {A : Type 0} (o : Option A) (l m : List A) → listed o (l ++ m) ≡ listed o l ++ m
listed_append None l m = refl
listed_append (Some a) l m = refl

module _ (source : List ℕ) where
  imports_append : (l m : List ℕ) (q : ℕ) → imports_from source q (l ++ m) ≡ imports_from source q l ++ imports_from source (q + length l) m
  unfolding imports_from
  imports_append [] m q = rw add-zero
  imports_append (zero ∷ l) m q = rw (add-suc, ← suc-add) (imports_append l m (suc q))
  imports_append (suc n ∷ l) m q =
      rw (add-suc, ← suc-add, imports_append l m (suc q)) (listed_append (import_at source q (value_of modes n)) (imports_from source (suc q) l) _)

  -- none where nothing is ticked
  no_imports : (n q : ℕ) → imports_from source q (replicate n 0) ≡ []
  unfolding imports_from
  no_imports zero q = refl
  no_imports (suc n) q = no_imports n (suc q)

  none_before : (a n q : ℕ) → imports_from source q (take a (replicate n 0)) ≡ []
  unfolding imports_from
  none_before zero n q = refl
  none_before (suc a) zero q = refl
  none_before (suc a) (suc n) q = none_before a n (suc q)

  none_behind : (a n q : ℕ) → imports_from source q (drop a (replicate n 0)) ≡ []
  unfolding imports_from
  none_behind zero n q = no_imports n q
  none_behind (suc a) zero q = refl
  none_behind (suc a) (suc n) q = none_behind a n q

  own_imports : (c : Comment) → BodyWithin source c → is_star_opened source c ≡ true
      → imports_from source 0 (ticks_of source (c ∷ [])) ≡ imports_from source (body_span c).start (listing (body source c))
  unfolding ticked_by_all ticked_by
  own_imports c w o =
      let zeros = replicate {A = ℕ} (length source) 0 in
      let ticks = listing (body source c) in
      let front = take (body_span c).start zeros in
      let below : (body_span c).start ≤ length zeros = omega (arith, w.order, w.end, w.source_end_lem, length-replicate {A = ℕ} (length source) 0) in
      let size : length front ≡ (body_span c).start = length-take-le (body_span c).start zeros below in
      rw (o, imports_append front (ticks ++ drop (body_span c).end zeros) 0, none_before (body_span c).start (length source) 0, size, zero-add)
      (imports_append ticks (drop (body_span c).end zeros) (body_span c).start
      ∙ rw (none_behind (body_span c).end (length source) ((body_span c).start + length ticks)) (append-nil _))

  no_own_imports : (c : Comment) → is_star_opened source c ≡ false → imports_from source 0 (ticks_of source (c ∷ [])) ≡ []
  unfolding ticked_by_all ticked_by
  no_own_imports c o = rw o (no_imports (length source) 0)

  no_javascript : (media : MediaType) → is_java_script media ≡ false → (cs : List Comment) → jsdoc_imports media source cs ≡ []
  unfolding jsdoc_imports
  no_javascript media js cs = rw js

-- ---- a table of ticks and a table of openers

module _ (source b : List ℕ) (start : ℕ) (P : JsDocImportInfo → Origin → Type 0) where
  -- at place q no tick and no opener, or the tick of an import and the opener that gives it
  abbrev Matched : ℕ → ℕ → ℕ → Type 0
  Matched q x y =
      ((x ≡ 0) × (y ≡ 0))
      ⊎ ((n k : ℕ) × (i : JsDocImportInfo) × (x ≡ suc n) × (y ≡ suc k) × (import_at source q (value_of modes n) ≡ Some i) × P i (opener_at b start k))

  aligned_tables : (ticks table : List ℕ) (q : ℕ) → length ticks ≡ length table → ((d : ℕ) → Matched (q + d) (get_or ticks d 0) (get_or table d 0))
      → Aligned P (imports_from source q ticks) (openers_from b start table)
  unfolding imports_from openers_from
  aligned_tables [] [] q e h = Aligned.none
  aligned_tables [] (y ∷ table) q e h = absurd (omega arith)
  aligned_tables (x ∷ ticks) [] q e h = absurd (omega arith)
  aligned_tables (x ∷ ticks) (y ∷ table) q e h =
      go x y (rw add-zero at (h 0)) (aligned_tables ticks table (suc q) (omega arith) (λ d. rw (suc-add, ← add-suc) (h (suc d))))
    where
      go : (x y : ℕ) → Matched q x y → Aligned P (imports_from source (suc q) ticks) (openers_from b start table)
          → Aligned P (imports_from source q (x ∷ ticks)) (openers_from b start (y ∷ table))
      go x y (inl (e, f)) r = rw (e, f) r
      go x y (inr (n, k, i, e, f, is, p)) r = rw (e, f, is) (Aligned.and p r)

-- ---- the origins of one comment

-- the byte at which a reading begins tells its rule
ruled : (b : Bytes) (k : ℕ) {q e : Bytes} {m : Mode} → Reading (drop k b) q e m → reading_by (rule_at b k) (drop k b) q e m
ruled b k (inl r) = rw (head_at b k _ _ r.brace).1 r
ruled b k (inr r) = rw (head_at b k _ _ r.word).1 r

module _ {source : List ℕ} (f : formed Utf8 0 source ≡ true) (c : Comment) (cs : List Comment) (w : BodyWithin source c) (o : StarOpened source c) where
  module _ {k q : ℕ} {m : Mode} (r : From Reading (body source c) k q m) (least : (j : ℕ) (n : Mode) → j < k → From Reading (body source c) j q n → ⊥) where
    -- a reading from the first place that reads its quote gives the import there
    first_from : JsDocFrom source (c ∷ cs) (reading_stands f c w r).import (opener_at (body source c) (body_span c).start k)
    first_from =
        let t = reading_stands f c w r in
        record {
          k = 0;
          there = suc-le-suc zero-le;
          opened = o;
          from = k;
          at = q;
          reading = record { end = r.end; inside = r.inside; reads = rw t.mode_is (ruled (body source c) k r.reads) };
          offset = refl;
          stands = t.stands;
          least = least;
        }

  abbrev b : List ℕ
  b = body source c

  -- what stands at place q in both tables
  abbrev At : ℕ → ℕ → ℕ → Type 0
  At q x y = Matched source b (body_span c).start (JsDocFrom source (c ∷ cs)) ((body_span c).start + q) x y

  matched : (q : ℕ) → At q (get_or (listing b) q 0) (get_or (openers b) q 0)
  matched q = go (get_or (openers b) q 0) refl
    where
      unticked : (x : ℕ) → get_or (listing b) q 0 ≡ x → get_or (openers b) q 0 ≡ 0 → x ≡ 0
      unticked zero e z = refl
      unticked (suc n) e z = let (m, i, (k, r)) = (listing_ticks b).sound q n (omega arith) in absurd ((origins_first b).complete q k (m, r) z)

      go : (y : ℕ) → get_or (openers b) q 0 ≡ y → At q (get_or (listing b) q 0) y
      go zero e = inl (unticked (get_or (listing b) q 0) refl e, refl)
      go (suc k) e =
          let (m, r) = (origins_first b).sound q k (omega arith) in
          let t = reading_stands f c w r in
          let tick : get_or (listing b) q 0 ≡ suc (mode_number m) = omega (arith, (listing_ticks b).complete q m (k, r)) in
          let from = first_from r (λ j n h g. omega (arith, (origins_first b).least q k j (omega arith) (n, g))) in
          inr (mode_number m, k, t.import, tick, refl, rw (mode_numbers.back m) t.is, from)

  own_aligned : Aligned (JsDocFrom source (c ∷ cs)) (imports_from source (body_span c).start (listing b)) (openers_from b (body_span c).start (openers b))
  own_aligned =
      aligned_tables source b (body_span c).start (JsDocFrom source (c ∷ cs)) (listing b) (openers b) (body_span c).start
      ((listing_ticks b).same ∙ sym (origins_first b).same)
      matched

-- ---- the origins of all comments

module _ (media : MediaType) {source : List ℕ} (f : formed Utf8 0 source ≡ true) where
  given_aligned : is_java_script media ≡ true → (c : Comment) (cs : List Comment) → Placed source c
      → Aligned (JsDocFrom source (c ∷ cs)) (given_by media source c) (origins_of source c)
  unfolding jsdoc_imports origins_of
  given_aligned js c cs p = rw js (go (is_star_opened source c) refl)
    where
      w : BodyWithin source c
      w = placed_body source c p

      go : (t : Bool) → is_star_opened source c ≡ t
          → Aligned (JsDocFrom source (c ∷ cs)) (imports_from source 0 (ticks_of source (c ∷ [])))
          (cond t (openers_from (body source c) (body_span c).start (openers (body source c))) [])
      go true o = rw (own_imports source c w o) (own_aligned f c cs w (opened_sound source c o))
      go false o = rw (no_own_imports source c o) Aligned.none

  -- what holds of the later comments holds of all
  later : {c : Comment} {cs : List Comment} (i : JsDocImportInfo) (o : Origin) → JsDocFrom source cs i o → JsDocFrom source (c ∷ cs) i o
  later i o x = record {
    k = suc x.k;
    there = suc-le-suc x.there;
    opened = x.opened;
    from = x.from;
    at = x.at;
    reading = x.reading;
    offset = x.offset;
    stands = x.stands;
    least = x.least;
  }

  all_aligned : is_java_script media ≡ true → (cs : List Comment) → Fit source cs
      → Aligned (JsDocFrom source cs) (flat_map (given_by media source) cs) (flat_map (origins_of source) cs)
  unfolding flat_map
  all_aligned js [] fit = Aligned.none
  all_aligned js (c ∷ cs) fit =
      aligned_append (given_aligned js c cs (fit.each 0 (suc-le-suc zero-le))) (aligned_map later (all_aligned js cs (fit_tail fit)))

  pub jsdoc_origins_kept : {cs : List Comment} → Fit source cs → Aligned (JsDocFrom source cs) (jsdoc_imports media source cs) (jsdoc_origins media source cs)
  unfolding jsdoc_origins
  jsdoc_origins_kept {cs} fit = go (is_java_script media) refl
    where
      go : (t : Bool) → is_java_script media ≡ t → Aligned (JsDocFrom source cs) (jsdoc_imports media source cs) (cond t (flat_map (origins_of source) cs) [])
      go true e = rw (by_comment media f fit).in_order (all_aligned e cs fit)
      go false e = rw (no_javascript source media e cs) Aligned.none
